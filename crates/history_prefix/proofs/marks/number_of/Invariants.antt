use Rattle.std.proofs.Common.{◌≡◌, ◌+◌, drop}
use Rattle.history_prefix.specs.Marks.{nth_kept}
use Rattle.history_prefix.proofs.marks.number_of.Given as goal

abbrev pub invariant-loop-index : goal.invariant-loop-index
invariant-loop-index l = nth_kept (l.index + 1) (drop l.index l.marks) l.left ≡ nth_kept 1 l.marks l.kept
