use Rattle.std.proofs.Common.{◌≡◌, take}
use Rattle.history_file.specs.Owning.{all_happened, all_seen}
use Rattle.history_file.proofs.event.lend_events.Given as goal

abbrev pub invariant-loop-event : goal.invariant-loop-event
invariant-loop-event l = all_seen l.seen.items ≡ all_happened (take l.event-index l.events)
