use Rattle.std.proofs.Common.{◌≡◌, ◌+◌, ◌++◌, drop}
use Rattle.decide.specs.Spanning.{call_spans}
use Rattle.decide.proofs.spans.put_calls.Given as goal

-- what is put, and what is left, make the whole
abbrev pub invariant-loop-index : goal.invariant-loop-index
invariant-loop-index l = l.spans.items ++ call_spans (l.index + 1) (drop l.index l.calls) ≡ l.fn.spans.items ++ call_spans 1 l.calls
