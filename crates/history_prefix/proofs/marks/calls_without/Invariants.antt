use Rattle.std.proofs.Common.{take}
use Rattle.history_prefix.specs.Marks.{AreMarks, is_other}
use Rattle.history_prefix.proofs.marks.calls_without.Given as goal

abbrev pub invariant-loop-number : goal.invariant-loop-number
invariant-loop-number l = AreMarks (is_other (take l.number-index l.numbers)) l.count l.marks.items
