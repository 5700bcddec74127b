use Rattle.std.proofs.Common.{◌≡◌, drop}
use Rattle.order_check.specs.Places.{is_placeable}
use Rattle.order_check.specs.FirstFault.{failing}
use Rattle.order_check.proofs.shape.not_to_place.Given as goal

abbrev pub invariant-loop-place : goal.invariant-loop-place
invariant-loop-place l = failing (is_placeable l.history.calls) (drop l.place-index l.order) ≡ failing (is_placeable l.history.calls) l.order
