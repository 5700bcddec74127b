use Rattle.std.proofs.Common.{◌≡◌, take}
use Rattle.history_file.specs.Owning.{all_happened, all_seen}
use Rattle.history_file.proofs.event.copy_events.Given as goal

abbrev pub invariant-loop-event : goal.invariant-loop-event
invariant-loop-event l = all_happened l.events.items ≡ all_seen (take l.event-index l.seen)
