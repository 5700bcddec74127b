use Rattle.std.proofs.Common.{◌<◌, length, arith}
use Rattle.capture_history.proofs.Noted.{noted_none, noted_at}
use Rattle.capture_history.proofs.import.note_all.Goals as goal

pub loop-event-init : goal.loop-event-init
loop-event-init c = noted_none c.args.log.now c.args.notes.now.items

pub loop-event-preserved : goal.loop-event-preserved
loop-event-preserved c =
    let lt : c.loop-event.event-index < length c.args.events.now = omega arith in
    noted_at c.args.log.now c.args.notes.now.items c.args.events.now c.loop-event.event-index c.event-item.result c.loop-event.log c.loop-event.notes.items _ _ lt c.event-item.is c.loop-event.invariant c.in_ok-note_next.ensures
