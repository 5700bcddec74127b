use Rattle.order_check.specs.FirstFault.{MarkedSoFar}
use Rattle.order_check.proofs.shape.mark_calls.Given as goal

abbrev pub invariant-loop-place : goal.invariant-loop-place
invariant-loop-place l = MarkedSoFar l.order l.place-index l.named.items l.calls
