use Rattle.std.proofs.Common.{take}
use Rattle.order_check.specs.Order.{EachEraRespectsOrder}
use Rattle.order_check.proofs.order.check_order_of_calls.Given as goal

abbrev pub invariant-loop-era : goal.invariant-loop-era
invariant-loop-era l = EachEraRespectsOrder l.calls.calls (take l.era-index l.eras)
