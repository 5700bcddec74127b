use Rattle.std.proofs.Common.{◌≡◌, ◌-◌, ◌+◌}
use Rattle.history_file.specs.HistoryFile.{events}
use Rattle.history_file.specs.FileReading.{reading_of, with_front}
use Rattle.history_file.specs.Owning.{all_seen}
use Rattle.history_file.proofs.file.many_events.Given as goal

abbrev pub invariant-loop-index : goal.invariant-loop-index
invariant-loop-index l = with_front (all_seen l.seen.items) (reading_of (events (l.count - l.index) (l.index + 1)) l.reader) ≡ reading_of (events l.count 1) l.initial.reader
