use Rattle.std.proofs.Common.{take}
use Rattle.capture_history.specs.Noting.{AreInOrder}
use Rattle.capture_history.proofs.import.note_all.Given as goal

abbrev pub invariant-loop-event : goal.invariant-loop-event
invariant-loop-event l = AreInOrder l.fn.log l.fn.notes.items (take l.event-index l.events) l.log l.notes.items
