use Rattle.std.proofs.Common.{◌≡◌, ◌++◌, get_or, take, Err, Option, option_map, ap, subst, [], List}
use Rattle.std.specs.Option.{option_to_list}
use Rattle.std.proofs.lemmas.List.{take_all}
use Rattle.std.proofs.lemmas.Result.{err_from_is_err_and}
use Rattle.nfs3_types.specs.declared.calls.NfsCall.{NfsCall}
use Rattle.nfs3_types.specs.declared.replies.Outcome.{Outcome}
use Rattle.replay_law.specs.Run.{TakenStep}
use Rattle.replay_law.specs.declared.run.RunFault.TheVariants.{Illegal}
use Rattle.witness_check.specs.declared.run.Found.{Found}
use Rattle.witness_check.specs.Running.{Stands, IsStuckAt, found_step, found_steps}
use Rattle.witness_check.proofs.Steps.{more_kept, stuck_kept}
use Rattle.witness_check.proofs.run.run_kept_steps.Goals as goal

pub loop-step-preserved : goal.loop-step-preserved
loop-step-preserved c = λ kept s.
    let steps = c.args.steps.now in
    let i = c.loop-step.step-index in
    let item = c.step-item.result in
    let same : option_map found_step item ≡ option_map found_step (get_or steps i item) = ap (option_map found_step) c.step-item.is in
    more_kept c.args.rule.now (option_map found_step) steps i item c.loop-step-test.true c.run_kept_step.new.replay kept
    (subst (λ (o : Option (TakenStep NfsCall Outcome)). Stands c.args.rule.now c.run_kept_step.new.replay ((kept ++ found_steps (take i steps)) ++ option_to_list o) []) same
    (c.in_ok-run_kept_step.ensures.ok (kept ++ found_steps (take i steps)) (c.loop-step.invariant kept s)))

pub returns-in_err-run_kept_step-clause-illegal : goal.returns-in_err-run_kept_step-clause-illegal
returns-in_err-run_kept_step-clause-illegal c = λ number is kept s.
    let steps = c.args.steps.now in
    let i = c.loop-step.step-index in
    let stands = c.loop-step.invariant kept s in
    let fault = err_from_is_err_and c.from_residual.result c.from_residual.ensures.1 in
    let was : c.run_kept_step.result ≡ Err c.in_err-run_kept_step.field-0.0 = c.in_err-run_kept_step.was in
    let refused : c.run_kept_step.result ≡ Err (Illegal number) = cc (fault.1, fault.2, was, is) in
    let item = c.step-item.result in
    let same : option_map found_step item ≡ option_map found_step (get_or steps i item) = ap (option_map found_step) c.step-item.is in
    let still = c.in_err-run_kept_step.ensures.stays (kept ++ found_steps (take i steps)) [] stands in
    stuck_kept c.args.rule.now (option_map found_step) steps i item number c.loop-step-test.true c.run_kept_step.new.replay kept still
    (subst (λ (o : Option (TakenStep NfsCall Outcome)). IsStuckAt c.args.rule.now (kept ++ found_steps (take i steps)) o number) same
    (c.run_kept_step.ensures.illegal number refused (kept ++ found_steps (take i steps)) stands))

pub returns-clause-ok : goal.returns-clause-ok
returns-clause-ok c = λ kept s.
    let all = take_all c.loop-step.step-index c.args.steps.now c.loop-step-test.false in
    subst (λ (xs : List (Option Found)). Stands c.args.rule.now c.loop-step.replay (kept ++ found_steps xs) []) all (c.loop-step.invariant kept s)
