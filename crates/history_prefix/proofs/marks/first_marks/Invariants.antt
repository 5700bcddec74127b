use Rattle.std.proofs.Common.{nat_le}
use Rattle.history_prefix.specs.Marks.{AreMarks}
use Rattle.history_prefix.proofs.marks.first_marks.Given as goal

abbrev pub invariant-loop-index : goal.invariant-loop-index
invariant-loop-index l = AreMarks (λ i. nat_le i l.last) l.index l.marks.items
