use Rattle.std.proofs.Common.{take}
use Rattle.history_prefix.specs.Keeping.{is_within}
use Rattle.history_prefix.specs.Marks.{AreMarks}
use Rattle.history_prefix.proofs.marks.marks_within.Given as goal

abbrev pub invariant-loop-call : goal.invariant-loop-call
invariant-loop-call l = AreMarks (is_within (take l.call-index l.calls) l.last) l.count l.marks.items
