use Rattle.std.proofs.Common.{◌≡◌, List, ◌++◌, Some, None, option_map, sym, ap, subst}
use Rattle.nfs3_types.specs.declared.calls.NfsCall.{NfsCall}
use Rattle.nfs3_types.specs.declared.replies.Outcome.{Outcome}
use Rattle.replay_law.specs.Run.{TakenStep}
use Rattle.witness_check.specs.Running.{next_by, first_tree, Stands, found_step}
use Rattle.witness_check.proofs.Steps.{does_so, no_step, one_step, is_stuck}
use Rattle.witness_check.proofs.run.run_lost_step.Goals as goal

pub returns-in_default-clause-ok : goal.returns-in_default-clause-ok
returns-in_default-clause-ok c = λ kept lost s.
    let none : option_map found_step c.args.step.now ≡ None = ap (option_map found_step) c.in_default.is in
    subst (λ (xs : List (TakenStep NfsCall Outcome)). Stands c.args.rule.now c.args.replay.now kept xs) (sym (no_step c.args.rule.now (option_map found_step c.args.step.now) lost none)) s

pub returns-in-Ok-clause-ok : goal.returns-in-Ok-clause-ok
returns-in-Ok-clause-ok c = λ kept lost s.
    let found = c.in-Some.found in
    let some : option_map found_step c.args.step.now ≡ Some (found_step found) = ap (option_map found_step) c.in-Some.is in
    subst (λ (xs : List (TakenStep NfsCall Outcome)). Stands c.args.rule.now c.step_lost.new.self kept xs) (sym (one_step c.args.rule.now (option_map found_step c.args.step.now) (found_step found) lost some))
    (c.in-Ok.ensures.ok (next_by c.args.rule.now) (first_tree c.args.rule.now) found.number kept lost (does_so c.args.rule.now found.number _ found.call found.outcome c.in-Some-object_made.ensures) s)

pub returns-in-Err-NotAllowed-clause-illegal : goal.returns-in-Err-NotAllowed-clause-illegal
returns-in-Err-NotAllowed-clause-illegal c = λ number is kept lost s.
    let found = c.in-Some.found in
    let some : option_map found_step c.args.step.now ≡ Some (found_step found) = ap (option_map found_step) c.in-Some.is in
    let named : found.number ≡ number = cc in
    is_stuck c.args.rule.now (option_map found_step c.args.step.now) (found_step found) (kept ++ lost) number some named
    (c.in-Err-NotAllowed.ensures.not_allowed (cc) (next_by c.args.rule.now) (first_tree c.args.rule.now) found.number kept lost (does_so c.args.rule.now found.number _ found.call found.outcome c.in-Some-object_made.ensures) s)

pub returns-in-Err-NotAllowed-clause-stays : goal.returns-in-Err-NotAllowed-clause-stays
returns-in-Err-NotAllowed-clause-stays c = c.in-Err-NotAllowed.ensures.err (next_by c.args.rule.now) (first_tree c.args.rule.now)

pub returns-in-Err-NoMemory-clause-stays : goal.returns-in-Err-NoMemory-clause-stays
returns-in-Err-NoMemory-clause-stays c = c.in-Err-NoMemory.ensures.err (next_by c.args.rule.now) (first_tree c.args.rule.now)
