use Rattle.std.proofs.Common.{◌≡◌, ◌++◌, subst}
use Rattle.history_file.specs.Event.{Event}
use Rattle.history_file.specs.Writing.{event_text}
use Rattle.history_mending.proofs.Pieces.{put_more, put_all}
use Rattle.history_mending.proofs.part.put_events.Goals as goal

pub loop-event-preserved : goal.loop-event-preserved
loop-event-preserved c =
    let one = subst (λ (e : Event). c.append_event.new.out.items ≡ c.loop-event.text.items ++ event_text e) c.as_seen.ensures c.in_ok-append_event.ensures.ok in
    put_more c.args.events.now c.loop-event.event-index c.event-item.result c.loop-event.text.items c.append_event.new.out.items c.loop-event-test.true c.event-item.is one c.loop-event.invariant

pub returns : goal.returns
returns c = put_all c.args.events.now c.loop-event.event-index c.loop-event.text.items c.loop-event-test.false c.loop-event.invariant
