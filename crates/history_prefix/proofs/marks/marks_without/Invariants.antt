use Rattle.std.proofs.Common.{take}
use Rattle.history_prefix.specs.Keeping.{is_without}
use Rattle.history_prefix.specs.Marks.{AreMarks}
use Rattle.history_prefix.proofs.marks.marks_without.Given as goal

abbrev pub invariant-loop-number : goal.invariant-loop-number
invariant-loop-number l = AreMarks (is_without l.calls (take l.number-index l.numbers)) l.count l.marks.items
