use Rattle.std.proofs.Common.{◌≡◌, ◌+◌, drop}
use Rattle.std.specs.List.{position_from}
use Rattle.order_check.specs.FirstFault.{keeps_too_many, first_bad_cut}
use Rattle.order_check.proofs.shape.bad_cut.Given as goal

abbrev pub invariant-loop-index : goal.invariant-loop-index
invariant-loop-index l = position_from keeps_too_many (l.index + 1) (drop l.index l.eras) ≡ first_bad_cut l.eras
