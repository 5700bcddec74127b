use Rattle.std.proofs.Common.{◌≡◌, take}
use Rattle.history_file.specs.Owning.{all_happened}
use Rattle.history_file.specs.Writing.{events_text}
use Rattle.history_mending.proofs.part.put_events.Given as goal

abbrev pub invariant-loop-event : goal.invariant-loop-event
invariant-loop-event l = l.text.items ≡ events_text (all_happened (take l.event-index l.events))
