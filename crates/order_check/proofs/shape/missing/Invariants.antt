use Rattle.order_check.proofs.ShapeLaws.{IsSoFar}
use Rattle.order_check.proofs.shape.missing.Given as goal

abbrev pub invariant-loop-index : goal.invariant-loop-index
invariant-loop-index l = IsSoFar l.history.calls l.order l.index
