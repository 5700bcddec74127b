use Rattle.std.proofs.Common.{◌≡◌, ◌+◌, ◌++◌, drop}
use Rattle.decide.specs.Spanning.{crash_spans}
use Rattle.decide.proofs.spans.put_crashes.Given as goal

-- what is put, and what is left, make the whole
abbrev pub invariant-loop-index : goal.invariant-loop-index
invariant-loop-index l = l.spans.items ++ crash_spans (l.first + l.index) (drop l.index l.marks) ≡ l.fn.spans.items ++ crash_spans l.first l.marks
