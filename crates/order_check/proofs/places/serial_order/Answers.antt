use Rattle.std.proofs.Common.{◌≡◌, ℕ, ◌+◌, ◌++◌, ◌∷◌, List, map, drop, sym, ap, ◌∙◌, append_assoc}
use Rattle.std.proofs.lemmas.List.{at_drop_more}
use Rattle.certificate.specs.declared.plan.EraPlan.{EraPlan}
use Rattle.certificate.specs.declared.plan.Place.{Place}
use Rattle.order_check.specs.declared.places.OrderedPlace.{OrderedPlace}
use Rattle.order_check.specs.Places.{order_from}
use Rattle.order_check.proofs.places.serial_order.Goals as goal

-- the places of the next era behind those so far
one_more : (later : List EraPlan) (n : ℕ) (era : EraPlan) (old new : List OrderedPlace) (places : List Place) (read total : List OrderedPlace)
    → read ≡ order_from n (era ∷ later) → new ≡ old ++ map (λ place. record { era = n; place = place }) places → places ≡ era.places → old ++ read ≡ total → new ++ order_from (n + 1) later ≡ total
one_more later n era old new places read total front pushed same so_far =
    rw (pushed, same, append_assoc) (ap (λ xs. old ++ xs) (sym front) ∙ so_far)

pub loop-index-preserved : goal.loop-index-preserved
loop-index-preserved c =
    let eras = c.args.eras.now in
    let i = c.loop-index.index in
    let era = c.index-eras-index.result in
    let front = at_drop_more (order_from (i + 1)) eras i era c.loop-index-test.true ∙ ap (λ e. order_from (i + 1) (e ∷ drop (i + 1) eras)) (sym c.index-eras-index.is) in
    one_more (drop (i + 1) eras) (i + 1) era c.loop-index.order.items c.push_places.new.order.items c.as_slice.result.now (order_from (i + 1) (drop i eras)) (order_from 1 eras) front c.in_ok-push_places.ensures c.as_slice.ensures c.loop-index.invariant
