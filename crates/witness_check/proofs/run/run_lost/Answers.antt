use Rattle.std.proofs.Common.{◌≡◌, take, Err, subst, List}
use Rattle.std.proofs.lemmas.List.{take_all}
use Rattle.std.proofs.lemmas.Result.{err_from_is_err_and}
use Rattle.certificate.specs.declared.plan.Place.{Place}
use Rattle.replay_law.specs.declared.run.RunFault.TheVariants.{Illegal}
use Rattle.witness_check.specs.Run.{step_at, steps_of}
use Rattle.witness_check.specs.Running.{Stands}
use Rattle.witness_check.proofs.Steps.{more_lost, stuck_lost}
use Rattle.witness_check.proofs.run.run_lost.Goals as goal

pub loop-place-preserved : goal.loop-place-preserved
loop-place-preserved c = λ kept s.
    let calls = c.args.history.now.calls in
    let places = c.args.places.now in
    let i = c.loop-place.place-index in
    more_lost c.args.rule.now (step_at calls) places i _ c.loop-place-test.true c.run_lost_place.new.replay kept
    (c.in_ok-run_lost_place.ensures.ok kept (steps_of calls (take i places)) (c.loop-place.invariant kept s))

pub returns-in_err-run_lost_place-clause-illegal : goal.returns-in_err-run_lost_place-clause-illegal
returns-in_err-run_lost_place-clause-illegal c = λ number is kept s.
    let calls = c.args.history.now.calls in
    let places = c.args.places.now in
    let i = c.loop-place.place-index in
    let stands = c.loop-place.invariant kept s in
    let fault = err_from_is_err_and c.from_residual.result c.from_residual.ensures.1 in
    let was : c.run_lost_place.result ≡ Err c.in_err-run_lost_place.field-0.0 = c.in_err-run_lost_place.was in
    let refused : c.run_lost_place.result ≡ Err (Illegal number) = cc (fault.1, fault.2, was, is) in
    let still = c.in_err-run_lost_place.ensures.stays kept (steps_of calls (take i places)) stands in
    stuck_lost c.args.rule.now (step_at calls) places i _ number c.loop-place-test.true c.run_lost_place.new.replay kept still (c.run_lost_place.ensures.illegal number refused kept (steps_of calls (take i places)) stands)

pub returns-clause-ok : goal.returns-clause-ok
returns-clause-ok c = λ kept s.
    let all = take_all c.loop-place.place-index c.args.places.now c.loop-place-test.false in
    subst (λ (ps : List Place). Stands c.args.rule.now c.loop-place.replay kept (steps_of c.args.history.now.calls ps)) all (c.loop-place.invariant kept s)
