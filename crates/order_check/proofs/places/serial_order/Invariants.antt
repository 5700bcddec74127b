use Rattle.std.proofs.Common.{◌≡◌, ◌+◌, ◌++◌, drop}
use Rattle.order_check.specs.Places.{order_from}
use Rattle.order_check.proofs.places.serial_order.Given as goal

abbrev pub invariant-loop-index : goal.invariant-loop-index
invariant-loop-index l = l.order.items ++ order_from (l.index + 1) (drop l.index l.eras) ≡ order_from 1 l.eras
