use Rattle.std.proofs.Common.{◌≡◌, List, Some, map, subst}
use Rattle.std.proofs.lemmas.List.{take_all}
use Rattle.replay_law.specs.Run.{state_after, kept_steps}
use Rattle.certificate.specs.declared.plan.EraPlan.{EraPlan}
use Rattle.certificate.specs.declared.plan.Place.{Place}
use Rattle.witness_check.specs.Run.{era_of, steps_of}
use Rattle.fault_reasons.specs.Running.{next_by}
use Rattle.fault_reasons.proofs.Behind.{more_eras}
use Rattle.fault_reasons.proofs.running.run_kept.Goals as goal

pub loop-era-preserved : goal.loop-era-preserved
loop-era-preserved c =
    let next = next_by c.args.rule.now in
    let calls = c.args.rule.now.history.now.calls in
    let era = c.era-item.result in
    let kept = subst (λ (ps : List Place). state_after next c.loop-era.tree (steps_of calls ps) ≡ Some c.run_places.new.tree) c.kept_places.ensures c.in_ok-run_places.ensures in
    more_eras next calls c.args.eras.now c.loop-era.era-index era _ _ _ c.loop-era-test.true c.era-item.is c.loop-era.invariant kept

pub returns : goal.returns
returns c =
    subst (λ (eras : List EraPlan). state_after (next_by c.args.rule.now) c.args.tree.now (kept_steps (map (era_of c.args.rule.now.history.now.calls) eras)) ≡ Some c.loop-era.tree)
    (take_all c.loop-era.era-index c.args.eras.now c.loop-era-test.false) c.loop-era.invariant
