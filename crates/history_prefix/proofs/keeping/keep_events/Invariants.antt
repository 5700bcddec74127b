use Rattle.std.proofs.Common.{◌≡◌, ◌++◌, drop}
use Rattle.history_file.specs.Owning.{all_happened}
use Rattle.history_prefix.specs.Marks.{kept}
use Rattle.history_prefix.proofs.keeping.keep_events.Given as goal

abbrev pub invariant-loop-index : goal.invariant-loop-index
invariant-loop-index l = all_happened l.copies.items ++ kept (drop l.index l.marks) (all_happened (drop l.index l.events)) ≡ kept l.marks (all_happened l.events)
