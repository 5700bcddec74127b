use Rattle.std.proofs.Common.{ap, ◌∙◌}
use Rattle.std.proofs.lemmas.List.{take_all}
use Rattle.history_file.specs.Owning.{happened, seen_event, all_seen}
use Rattle.history_file.proofs.EventLists.{one_more}
use Rattle.history_file.proofs.event.copy_events.Goals as goal

pub loop-event-preserved : goal.loop-event-preserved
loop-event-preserved c =
    rw c.in_ok-push.ensures.items (one_more happened seen_event c.loop-event.events.items c.args.seen.now c.loop-event.event-index c.in_ok-copy.copy _ c.loop-event-test.true c.in_ok-copy.ensures c.loop-event.invariant)

pub returns : goal.returns
returns c = c.loop-event.invariant ∙ ap all_seen (take_all c.loop-event.event-index c.args.seen.now c.loop-event-test.false)
