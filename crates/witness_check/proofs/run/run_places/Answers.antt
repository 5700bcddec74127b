use Rattle.std.proofs.Common.{◌≡◌, ◌++◌, drop, Err, sym, subst, ◌∙◌, List}
use Rattle.std.proofs.lemmas.Result.{err_from_is_err_and}
use Rattle.nfs3_types.specs.declared.calls.NfsCall.{NfsCall}
use Rattle.nfs3_types.specs.declared.replies.Outcome.{Outcome}
use Rattle.certificate.specs.declared.plan.Place.{Place}
use Rattle.certificate.specs.Plan.{cut_of}
use Rattle.replay_law.specs.declared.run.RunFault.TheVariants.{Illegal}
use Rattle.replay_law.specs.Run.{TakenStep}
use Rattle.replay_law.proofs.Crashes.{from_base}
use Rattle.witness_check.specs.Run.{step_at, steps_of}
use Rattle.witness_check.specs.Running.{next_by, first_tree, Stands}
use Rattle.witness_check.specs.Stop.{IsFirstStop}
use Rattle.witness_check.proofs.Steps.{both}
use Rattle.witness_check.proofs.Stops.{stop_of_front, stop_behind}
use Rattle.witness_check.proofs.run.run_places.Goals as goal

pub returns-in_err-run_kept-clause-illegal : goal.returns-in_err-run_kept-clause-illegal
returns-in_err-run_kept-clause-illegal c = λ number is kept s base reached.
    let next = next_by c.args.rule.now in
    let calls = c.args.history.now.calls in
    let cut = cut_of c.args.era.now in
    let parts = both (step_at calls) cut c.args.era.now.places c.split_at_cut.result.0.now c.split_at_cut.result.1.now c.split_at_cut.ensures.kept c.split_at_cut.ensures.lost in
    let was : c.run_kept.result ≡ Err c.in_err-run_kept.field-0.0 = c.in_err-run_kept.was in
    let fault = err_from_is_err_and c.from_residual.result c.from_residual.ensures.1 in
    let refused : c.run_kept.result ≡ Err (Illegal number) = cc (fault.1, fault.2, was, is) in
    let tree = c.run_kept.new.replay.state in
    let found = c.run_kept.ensures.illegal number refused kept s base reached in
    subst (λ (steps : List (TakenStep NfsCall Outcome)). IsFirstStop next base steps number tree) (sym parts)
    (stop_of_front next base (steps_of calls c.split_at_cut.result.0.now) (steps_of calls c.split_at_cut.result.1.now) number tree found)

pub returns-in_err-run_lost-clause-illegal : goal.returns-in_err-run_lost-clause-illegal
returns-in_err-run_lost-clause-illegal c = λ number is kept s base reached.
    let next = next_by c.args.rule.now in
    let calls = c.args.history.now.calls in
    let front = steps_of calls c.split_at_cut.result.0.now in
    let parts = both (step_at calls) (cut_of c.args.era.now) c.args.era.now.places c.split_at_cut.result.0.now c.split_at_cut.result.1.now c.split_at_cut.ensures.kept c.split_at_cut.ensures.lost in
    let was : c.run_lost.result ≡ Err c.in_err-run_lost.field-0.0 = c.in_err-run_lost.was in
    let fault = err_from_is_err_and c.from_residual-in_err-run_lost.result c.from_residual-in_err-run_lost.ensures.1 in
    let refused : c.run_lost.result ≡ Err (Illegal number) = cc (fault.1, fault.2, was, is) in
    let tree = c.run_lost.new.replay.state in
    let stands = c.in_ok-run_kept.ensures.ok kept s in
    let found = c.run_lost.ensures.illegal number refused (kept ++ front) stands stands.base stands.reached in
    let middle = sym (from_base next (first_tree c.args.rule.now) base kept front reached) ∙ stands.reached in
    subst (λ (steps : List (TakenStep NfsCall Outcome)). IsFirstStop next base steps number tree) (sym parts)
    (stop_behind next base stands.base front (steps_of calls c.split_at_cut.result.1.now) number tree middle found)

pub returns-clause-ok : goal.returns-clause-ok
returns-clause-ok c = λ kept s.
    let calls = c.args.history.now.calls in
    let rule = c.args.rule.now in
    let front = c.split_at_cut.result.0.now in
    let back = c.split_at_cut.result.1.now in
    let stands = c.in_ok-run_lost.ensures.ok (kept ++ steps_of calls front) (c.in_ok-run_kept.ensures.ok kept s) in
    subst (λ (ps : List Place). Stands rule c.run_lost.new.replay (kept ++ steps_of calls ps) (steps_of calls (drop (cut_of c.args.era.now) c.args.era.now.places))) c.split_at_cut.ensures.kept
    (subst (λ (ps : List Place). Stands rule c.run_lost.new.replay (kept ++ steps_of calls front) (steps_of calls ps)) c.split_at_cut.ensures.lost stands)
