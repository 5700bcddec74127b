use Rattle.std.proofs.Common.{ap, ◌∙◌}
use Rattle.std.proofs.lemmas.List.{take_all}
use Rattle.history_file.specs.Owning.{happened, seen_event, all_happened}
use Rattle.history_file.proofs.EventLists.{one_more}
use Rattle.history_file.proofs.event.lend_events.Goals as goal

pub loop-event-preserved : goal.loop-event-preserved
loop-event-preserved c =
    rw c.in_ok-push.ensures.items (one_more seen_event happened c.loop-event.seen.items c.args.events.now c.loop-event.event-index c.as_seen-lent.result c.event-item.result c.loop-event-test.true (c.as_seen-lent.ensures ∙ ap happened c.event-item.is) c.loop-event.invariant)

pub returns : goal.returns
returns c = c.loop-event.invariant ∙ ap all_happened (take_all c.loop-event.event-index c.args.events.now c.loop-event-test.false)
