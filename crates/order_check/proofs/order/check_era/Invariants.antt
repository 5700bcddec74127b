use Rattle.std.proofs.Common.{take}
use Rattle.order_check.proofs.OrderLaws.{InOrderSoFar}
use Rattle.order_check.proofs.order.check_era.Given as goal

abbrev pub invariant-loop-place : goal.invariant-loop-place
invariant-loop-place l = InOrderSoFar l.history.calls (take l.place-index l.places) l.latest
