use Rattle.std.proofs.Common.{◌≡◌, List, Some, subst}
use Rattle.std.proofs.lemmas.List.{take_all}
use Rattle.replay_law.specs.Run.{state_after}
use Rattle.certificate.specs.declared.plan.Place.{Place}
use Rattle.witness_check.specs.Run.{step_at, steps_of}
use Rattle.fault_reasons.specs.Running.{next_by}
use Rattle.fault_reasons.proofs.Behind.{more_places}
use Rattle.fault_reasons.proofs.running.run_places.Goals as goal

pub loop-place-preserved : goal.loop-place-preserved
loop-place-preserved c =
    more_places (next_by c.args.rule.now) (step_at c.args.rule.now.history.now.calls) c.args.places.now c.loop-place.place-index _ _ _ _ c.loop-place-test.true
    c.loop-place.invariant c.in_ok-run_place.ensures

pub returns : goal.returns
returns c =
    subst (λ (ps : List Place). state_after (next_by c.args.rule.now) c.args.tree.now (steps_of c.args.rule.now.history.now.calls ps) ≡ Some c.loop-place.tree)
    (take_all c.loop-place.place-index c.args.places.now c.loop-place-test.false) c.loop-place.invariant
