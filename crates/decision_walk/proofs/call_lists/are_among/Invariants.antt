use Rattle.std.proofs.Common.{ℕ, drop}
use Rattle.decision_walk.proofs.SameCalls.{IsThereOr}
use Rattle.decision_walk.proofs.call_lists.are_among.Given as goal

-- each call is one of the others, or is left
abbrev pub invariant-loop-call : goal.invariant-loop-call
invariant-loop-call l = (n : ℕ) → IsThereOr l.calls l.others (drop l.call-index l.calls) n
