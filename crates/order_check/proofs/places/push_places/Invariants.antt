use Rattle.std.proofs.Common.{◌≡◌, ◌++◌, map, take}
use Rattle.order_check.proofs.places.push_places.Given as goal

abbrev pub invariant-loop-place : goal.invariant-loop-place
invariant-loop-place l = l.order.items ≡ l.initial.order.items ++ map (λ place. record { era = l.era; place = place }) (take l.place-index l.places)
