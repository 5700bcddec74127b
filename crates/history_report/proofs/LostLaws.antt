-- A plan that has its shape has no more places than there are calls, so it loses no more.
use Rattle.std.proofs.Common.{◌≡◌, ◌≢◌, ◌==◌, ℕ, zero, suc, ◌+◌, ◌<◌, ◌≤◌, ◌^◌, Bool, true, false, IsTrue, List, [], ◌∷◌, length, map, drop, refl, sym, ap, ◌∙◌, arith, inl, inr, length-append, length-drop}
use Rattle.std.specs.List.{AllByRecursion, IsDistinct, list_any}
use Rattle.std.proofs.lemmas.Bool.{false≢true, ne_eqb, eqb-true, or_cases}
use Rattle.std.proofs.lemmas.List.{length-map}
use Rattle.std.proofs.lemmas.List.Sums.{sum_by-cons, count_by-le-length}
use Rattle.std.proofs.lemmas.Map.Steps.{length-le_from_distinct_below}
use Rattle.std.proofs.lemmas.Option.{slice_get_cases}
use Rattle.nfs_history.specs.declared.recorded.RecordedCall.{RecordedCall}
use Rattle.nfs_history.specs.Precedence.{call_at}
use Rattle.certificate.specs.declared.plan.Place.{Place}
use Rattle.certificate.specs.declared.plan.EraPlan.{EraPlan}
use Rattle.certificate.specs.Plan.{cut_of}
use Rattle.order_check.specs.declared.places.OrderedPlace.{OrderedPlace}
use Rattle.order_check.specs.Places.{order_from, number_of, passes, is_of_era}
use Rattle.order_check.specs.Shape.{NameDifferentCalls, HasShape}
use Rattle.history_report.specs.Lost.{changes_at, lost_in, lost}

-- the calls that places name
numbers : List OrderedPlace → List ℕ
numbers [] = []
numbers (p ∷ order) = number_of p ∷ numbers order

as_many_numbers : (order : List OrderedPlace) → length (numbers order) ≡ length order
unfolding numbers
as_many_numbers [] = refl
as_many_numbers (p ∷ order) = ap suc (as_many_numbers order)

-- a call behind which something is asked is there
test_known : (test : RecordedCall → Bool) (calls : List RecordedCall) (n : ℕ) → passes test (call_at calls n) ≡ true → (0 < n) × (n ≤ length calls)
test_known test calls zero passed = absurd (false≢true passed)
test_known test calls (suc n) passed =
    elim (slice_get_cases calls n).1 [ inl w ↦ (omega arith, omega (arith, w.1)) | inr w ↦ absurd (false≢true (sym (ap (passes test) w.1) ∙ passed)) ]

-- no other place has the number of the first
apart : (n : ℕ) (order : List OrderedPlace) → AllByRecursion (λ q. number_of q ≢ n) order → AllByRecursion (λ m. (n == m) ≡ false) (numbers order)
unfolding numbers
apart n [] all = tt
apart n (q ∷ order) all = (ne_eqb n (number_of q) (λ same. all.0 (sym same)), apart n order all.1)

distinct : (order : List OrderedPlace) → NameDifferentCalls order → IsDistinct ◌==◌ (numbers order)
unfolding numbers IsDistinct
distinct [] once = tt
distinct (p ∷ order) once = (apart (number_of p) order once.0, distinct order once.1)

-- each place names a call of these
module _ (calls : List RecordedCall) where
  none_zero : (order : List OrderedPlace) → AllByRecursion (λ p. IsTrue (is_of_era calls p)) order → AllByRecursion (λ m. (0 == m) ≡ false) (numbers order)
  unfolding numbers
  none_zero [] all = tt
  none_zero (p ∷ order) all = (ne_eqb 0 (number_of p) (λ same. omega (arith, (test_known _ calls (number_of p) all.0).0)), none_zero order all.1)

  within : (order : List OrderedPlace) → AllByRecursion (λ p. IsTrue (is_of_era calls p)) order → (q : ℕ) → list_any (λ m. q == m) (numbers order) ≡ true → q < length calls + 1
  unfolding numbers
  within [] all q among = absurd (false≢true among)
  within (p ∷ order) all q among =
      elim (or_cases (q == number_of p) (list_any (λ m. q == m) (numbers order)) among) [
        | inl here ↦ omega (arith, eqb-true q (number_of p) here, (test_known _ calls (number_of p) all.0).1)
        | inr behind ↦ within order all.1 q behind
      ]

  within_all : (order : List OrderedPlace) → AllByRecursion (λ p. IsTrue (is_of_era calls p)) order → (q : ℕ) → list_any (λ m. q == m) (0 ∷ numbers order) ≡ true → q < length calls + 1
  within_all order all q among =
      elim (or_cases (q == 0) (list_any (λ m. q == m) (numbers order)) among) [
        | inl zeroth ↦ omega (arith, eqb-true q 0 zeroth)
        | inr behind ↦ within order all q behind
      ]

  -- no call is named twice, so there are no more places than calls
  few_places : (order : List OrderedPlace) → AllByRecursion (λ p. IsTrue (is_of_era calls p)) order → NameDifferentCalls order → length order ≤ length calls
  unfolding IsDistinct
  few_places order all once =
      let few : length (0 ∷ numbers order) ≤ length calls + 1 = length-le_from_distinct_below (0 ∷ numbers order) (length calls + 1) (none_zero order all, distinct order once) (within_all order all) in
      omega (arith, few, as_many_numbers order)

  lost-le : (e : ℕ) (eras : List EraPlan) → lost calls eras ≤ length (order_from e eras)
  lost-le e [] = omega arith
  lost-le e (era ∷ eras) =
      let past = drop (cut_of era) era.places in
      let placed = map (λ (place : Place). let p : OrderedPlace = record { era = e; place = place } in p) era.places in
      omega (
        arith,
        sum_by-cons (lost_in calls) era eras,
        count_by-le-length (changes_at calls) past,
        length-drop (cut_of era) era.places,
        length-append placed (order_from (e + 1) eras),
        length-map era.places (λ (place : Place). let p : OrderedPlace = record { era = e; place = place } in p),
        lost-le (e + 1) eras,
      )

pub few_lost : (eras : ℕ) (calls : List RecordedCall) (plan : List EraPlan) → HasShape eras calls plan → length calls < 2 ^ 64 → lost calls plan < 2 ^ 64
few_lost eras calls plan shape few =
    omega (arith, lost-le calls 1 plan, few_places calls (order_from 1 plan) shape.of_their_eras shape.once)
