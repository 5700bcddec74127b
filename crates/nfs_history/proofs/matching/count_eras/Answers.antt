use Rattle.std.proofs.Common.{sym, ◌∙◌}
use Rattle.nfs_history.proofs.MatchingSteps.{crash_counted, other_counted, all_counted}
use Rattle.nfs_history.proofs.matching.count_eras.Goals.{then-is_crash, else-is_crash}
use Rattle.nfs_history.proofs.matching.count_eras.Goals as goal

pub loop-event-preserved : goal.loop-event-preserved
loop-event-preserved c =
    let i = c.loop-event.event-index in
    elim c.if-is_crash.branch [
      | then-is_crash w ↦ rw w.eras-is (crash_counted c.args.events.now i c.loop-event.eras _ c.loop-event-test.true (sym c.is_crash.ensures ∙ w.if-is_crash.true) c.loop-event.invariant)
      | else-is_crash w ↦ rw w.eras-is (other_counted c.args.events.now i c.loop-event.eras _ c.loop-event-test.true (sym c.is_crash.ensures ∙ w.if-is_crash.false) c.loop-event.invariant)
    ]

pub returns : goal.returns
returns c = all_counted c.args.events.now c.loop-event.event-index c.loop-event.eras c.loop-event-test.false c.loop-event.invariant
