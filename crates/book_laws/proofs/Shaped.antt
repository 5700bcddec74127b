-- the plan of a book has its history's shape
use Rattle.std.proofs.Common.{◌≡◌, ◌≢◌, inl, inr, ℕ, zero, suc, ◌+◌, ◌≤◌, Bool, true, false, List, [], ◌∷◌, ◌++◌, length, take, map, Option, Some, None, refl, sym, ap, ◌∙◌, subst, eq-eqb, arith}
use Rattle.std.specs.Prelude.{IsTrue, IsSome, IfSome, is_some, is_none, nat_le, ◌&&◌, ◌||◌, ◌==◌, option_and_then, if◌then◌else◌}
use Rattle.std.specs.List.{AllByRecursion, list_any, filter_map, cons_option}
use Rattle.nfs3_types.specs.declared.replies.Outcome.{Outcome}
use Rattle.nfs_history.specs.declared.recorded.Meaning.{Meaning}
use Rattle.nfs_history.specs.declared.recorded.Meaning.TheVariants as meanings
use Rattle.nfs_history.specs.declared.recorded.RecordedCall.{RecordedCall}
use Rattle.nfs_history.specs.Precedence.{call_at}
use Rattle.certificate.specs.declared.plan.Place.{Place}
use Rattle.certificate.specs.declared.plan.Place.TheVariants.{Answered, Taken}
use Rattle.certificate.specs.declared.plan.EraPlan.{EraPlan}
use Rattle.certificate.specs.Plan.{call_of}
use Rattle.order_check.specs.declared.places.OrderedPlace.{OrderedPlace}
use Rattle.std.proofs.lemmas.Bool.{le-leb}
use Rattle.order_check.specs.Places as order
use Rattle.order_check.specs.Places.{order_from, number_of, is_wanted, is_of_era, is_placeable, may_take, may_place, passes}
use Rattle.order_check.specs.Shape.{HasShape, NameDifferentCalls}
use Rattle.tree_laws.specs.Outcomes.{count_written}
use Rattle.book_laws.specs.Placing.{Placed, is_recorded}
use Rattle.book_laws.specs.Book.{Book}
use Rattle.book_laws.specs.Plan.{place_as, place_of, places_of, plan_over, plan_now, plan_of}
use Rattle.book_laws.proofs.Invariant.{Over, IsKnown, IsReplied, AreKnown, AllKnown, AreDistinct, EachDistinct, IsPlacedIn, IsPlaced, IsInvariant}
use Rattle.book_laws.proofs.Lists.{all_append, all_each, all_given}

-- the eras of a plan
abbrev pub plans : List RecordedCall → List Over → List Placed → List EraPlan
plans calls over placed = map (plan_over calls) over ++ plan_now calls placed ∷ []

-- the place of a call that is known, by whether it got its reply
pub data Stands (calls : List RecordedCall) (step : Placed) (call : RecordedCall) (place : Place) : Type 0 where
  answered : IsSome call.«end» → call.outcome ≡ Some step.outcome → place ≡ Answered step.number → Stands calls step call place
  taken : call.«end» ≡ None → is_recorded step ≡ true → place ≡ Taken step.number (count_written step.outcome) → Stands calls step call place

stands_as : (calls : List RecordedCall) (step : Placed) (call : RecordedCall) (place : Place) → IsReplied call step → place_as step call ≡ Some place → Stands calls step call place
stands_as calls step call place (inl quiet) e = go (is_recorded step) refl (ap (λ o. if is_some o then Some (Answered step.number) else if is_recorded step then Some (Taken step.number (count_written step.outcome)) else None) (sym quiet.0) ∙ e) where
  go : (b : Bool) → is_recorded step ≡ b → (if b then Some (Taken step.number (count_written step.outcome)) else None) ≡ Some place → Stands calls step call place
  go true is f = taken quiet.0 is cc
  go false is f = absurd (cc)
stands_as calls step call place (inr told) e = answered told.0 told.1 (go (ap (λ (b : Bool). if b then Some (Answered step.number) else if is_recorded step then Some (Taken step.number (count_written step.outcome)) else None) (sym told.0) ∙ e)) where
  go : Some (Answered step.number) ≡ Some place → place ≡ Answered step.number
  go f = cc

pub stands : (calls : List RecordedCall) (era : ℕ) (step : Placed) (place : Place) (known : IsKnown calls era step) → place_of calls step ≡ Some place → Stands calls step known.call place
stands calls era step place known e = stands_as calls step known.call place known.replied (ap (option_and_then (place_as step)) (sym known.recorded) ∙ e)

-- it names its call
pub names : (calls : List RecordedCall) (step : Placed) (call : RecordedCall) (place : Place) → Stands calls step call place → call_of place ≡ step.number
names calls step call place (answered ended came is) = ap call_of is
names calls step call place (taken quiet recorded is) = ap call_of is

-- ---- places of their eras

true_is : (b : Bool) → b ≡ true → IsTrue b
true_is b e = e

of_era : (calls : List RecordedCall) (era : ℕ) (step : Placed) (place : Place) → IsKnown calls era step → place_of calls step ≡ Some place
    → IsTrue (is_of_era calls (record { era = era; place = place }))
of_era calls era step place known e =
    let number = names calls step known.call place (stands calls era step place known e) in
    ap (λ n. passes (λ c. nat_le c.era era && nat_le era c.era) (call_at calls n)) number
    ∙ ap (passes (λ c. nat_le c.era era && nat_le era c.era)) known.recorded
    ∙ ap (λ n. nat_le n era && nat_le era n) known.now ∙ itself era where
      itself : (n : ℕ) → (nat_le n n && nat_le n n) ≡ true
      itself n = ap (λ b. b && b) (le-leb n n (omega arith))

placeable : (calls : List RecordedCall) (era : ℕ) (step : Placed) (place : Place) → IsKnown calls era step → place_of calls step ≡ Some place
    → IsTrue (is_placeable calls (record { era = era; place = place }))
placeable calls era step place known e = go place (stands calls era step place known e) where
  go : (place : Place) → Stands calls step known.call place → passes (may_place place) (call_at calls (call_of place)) ≡ true
  go place (answered ended came is) =
      ap (λ p. passes (may_place p) (call_at calls (call_of p))) is ∙ ap (passes is_wanted) known.recorded
      ∙ ap (λ m. wanted m known.call.outcome) known.judged ∙ ap (wanted (meanings.Judged step.call)) came where
        wanted : Meaning → Option Outcome → Bool
        wanted m o = order.is_judged m && is_some o
  go place (taken quiet recorded is) =
      ap (λ p. passes (may_place p) (call_at calls (call_of p))) is ∙ ap (passes (may_place (Taken step.number (count_written step.outcome)))) known.recorded
      ∙ ap (λ o. is_none o && may_take known.call.meaning (count_written step.outcome)) quiet
      ∙ ap (λ m. may_take m (count_written step.outcome)) known.judged ∙ known.takes recorded

-- all places of an era, of which each step that is known has P
abbrev pub ordered : ℕ → List Place → List OrderedPlace
ordered era places = map (λ place. record { era = era; place = place }) places

module _ (calls : List RecordedCall) (era : ℕ) (P : OrderedPlace → Type 0)
    (of_step : (step : Placed) (place : Place) → IsKnown calls era step → place_of calls step ≡ Some place → P (record { era = era; place = place })) where
  all_mapped : (places : List Place) → AllByRecursion (λ place. P (record { era = era; place = place })) places → AllByRecursion P (ordered era places)
  all_mapped [] a = tt
  all_mapped (place ∷ places) a = (a.0, all_mapped places a.1)

  pub in_era : (steps : List Placed) → AreKnown calls era steps → AllByRecursion P (ordered era (places_of calls steps))
  in_era steps known =
      all_mapped (places_of calls steps)
      (all_given (IsKnown calls era) (λ place. P (record { era = era; place = place })) (place_of calls) steps (λ step place k e. of_step step place k e) known)

module _ (calls : List RecordedCall) (P : OrderedPlace → Type 0)
    (of_step : (era : ℕ) (step : Placed) (place : Place) → IsKnown calls era step → place_of calls step ≡ Some place → P (record { era = era; place = place })) where
  pub in_order : (era : ℕ) (over : List Over) (placed : List Placed) → AllKnown calls era over placed → AllByRecursion P (order_from era (plans calls over placed))
  in_order era [] placed known = all_append P (ordered era (places_of calls placed)) [] (in_era calls era P (of_step era) placed known) tt
  in_order era (first ∷ over) placed known =
      all_append P (ordered era (places_of calls first.steps)) (order_from (era + 1) (plans calls over placed))
      (in_era calls era P (of_step era) first.steps known.0) (in_order (era + 1) over placed known.1)

-- ---- no call twice

different_append : (xs ys : List OrderedPlace) → NameDifferentCalls xs → NameDifferentCalls ys → AllByRecursion (λ p. AllByRecursion (λ q. number_of q ≢ number_of p) ys) xs → NameDifferentCalls (xs ++ ys)
different_append [] ys a b apart = b
different_append (x ∷ xs) ys a b apart = (all_append (λ q. number_of q ≢ number_of x) xs ys a.0 apart.0, different_append xs ys a.1 b apart.1)

-- within an era
module _ (calls : List RecordedCall) (era : ℕ) where
  others : (n : ℕ) (steps : List Placed) → AreKnown calls era steps → AllByRecursion (λ other. other.number ≢ n) steps
      → AllByRecursion (λ q. number_of q ≢ n) (ordered era (places_of calls steps))
  others n [] known apart = tt
  others n (step ∷ steps) known apart = go (place_of calls step) refl (others n steps known.1 apart.1) where
    go : (o : Option Place) → place_of calls step ≡ o → AllByRecursion (λ q. number_of q ≢ n) (ordered era (places_of calls steps))
        → AllByRecursion (λ q. number_of q ≢ n) (ordered era (cons_option o (places_of calls steps)))
    go None is rest = rest
    go (Some place) is rest = ((λ same. apart.0 (sym (names calls step known.0.call place (stands calls era step place known.0 is)) ∙ same)), rest)

  different : (steps : List Placed) → AreKnown calls era steps → AreDistinct steps → NameDifferentCalls (ordered era (places_of calls steps))
  different [] known apart = tt
  different (step ∷ steps) known apart = go (place_of calls step) refl (different steps known.1 apart.1) where
    go : (o : Option Place) → place_of calls step ≡ o → NameDifferentCalls (ordered era (places_of calls steps)) → NameDifferentCalls (ordered era (cons_option o (places_of calls steps)))
    go None is rest = rest
    go (Some place) is rest =
        let number = names calls step known.0.call place (stands calls era step place known.0 is) in
        (all_each (λ q. number_of q ≢ step.number) (λ q. number_of q ≢ call_of place) (ordered era (places_of calls steps)) (λ q apart same. apart (same ∙ number)) (others step.number steps known.1 apart.0), rest)

-- a place's call is of the place's era
era_is : (calls : List RecordedCall) (era : ℕ) (step : Placed) (place : Place) → IsKnown calls era step → place_of calls step ≡ Some place
    → (call : RecordedCall) × (call_at calls (call_of place) ≡ Some call) × (call.era ≡ era)
era_is calls era step place known e =
    (known.call, ap (call_at calls) (names calls step known.call place (stands calls era step place known e)) ∙ known.recorded, known.now)

-- of an era from this one on
abbrev IsFrom : List RecordedCall → ℕ → OrderedPlace → Type 0
IsFrom calls least p = (call : RecordedCall) × (call_at calls (number_of p) ≡ Some call) × (least ≤ call.era)

from_step : (calls : List RecordedCall) (least era : ℕ) → least ≤ era → (step : Placed) (place : Place) → IsKnown calls era step → place_of calls step ≡ Some place
    → IsFrom calls least (record { era = era; place = place })
from_step calls least era le step place k is = let c = era_is calls era step place k is in (c.0, c.1, subst (λ (n : ℕ). least ≤ n) (sym c.2) le)

from_era : (calls : List RecordedCall) (least era : ℕ) (over : List Over) (placed : List Placed) → least ≤ era → AllKnown calls era over placed
    → AllByRecursion (IsFrom calls least) (order_from era (plans calls over placed))
from_era calls least era [] placed le known =
    all_append (IsFrom calls least) (ordered era (places_of calls placed)) [] (in_era calls era (IsFrom calls least) (from_step calls least era le) placed known) tt
from_era calls least era (first ∷ over) placed le known =
    all_append (IsFrom calls least) (ordered era (places_of calls first.steps)) (order_from (era + 1) (plans calls over placed))
    (in_era calls era (IsFrom calls least) (from_step calls least era le) first.steps known.0) (from_era calls least (era + 1) over placed (omega (arith, le)) known.1)

-- no later era names a call of an earlier one
module _ (calls : List RecordedCall) (era : ℕ) (later : List OrderedPlace) (known_later : AllByRecursion (IsFrom calls (era + 1)) later) where
  same_call : (c d : RecordedCall) → Some c ≡ Some d → c ≡ d
  same_call c d e = cc

  apart_from : (step : Placed) (place : Place) → IsKnown calls era step → place_of calls step ≡ Some place → AllByRecursion (λ q. number_of q ≢ call_of place) later
  apart_from step place k is =
      let c = era_is calls era step place k is in
      all_each (IsFrom calls (era + 1)) (λ q. number_of q ≢ call_of place) later
      (λ q known same.
      let one : known.0 ≡ c.0 = same_call known.0 c.0 (sym known.1 ∙ ap (call_at calls) same ∙ c.1) in
      absurd (clash known.0.era (subst (λ (n : ℕ). known.0.era ≡ n) c.2 (ap (λ (x : RecordedCall). x.era) one)) known.2)) known_later where
        clash : (n : ℕ) → n ≡ era → era + 1 ≤ n → ⊥
        clash n e le = omega (arith, e, le)

all_different : (calls : List RecordedCall) (era : ℕ) (over : List Over) (placed : List Placed) → AllKnown calls era over placed → EachDistinct over placed
    → NameDifferentCalls (order_from era (plans calls over placed))
all_different calls era [] placed known distinct =
    different_append (ordered era (places_of calls placed)) [] (different calls era placed known distinct) tt
    (in_era calls era (λ p. AllByRecursion (λ q. number_of q ≢ number_of p) []) (λ step place k is. tt) placed known)
all_different calls era (first ∷ over) placed known distinct =
    let later = order_from (era + 1) (plans calls over placed) in
    let known_later = from_era calls (era + 1) (era + 1) over placed (omega arith) known.1 in
    different_append (ordered era (places_of calls first.steps)) later (different calls era first.steps known.0 distinct.0) (all_different calls (era + 1) over placed known.1 distinct.1)
    (in_era calls era (λ p. AllByRecursion (λ q. number_of q ≢ number_of p) later) (apart_from calls era later known_later) first.steps known.0)

-- ---- every answered call

any_left : {X : Type 0} (test : X → Bool) (xs ys : List X) → list_any test xs ≡ true → list_any test (xs ++ ys) ≡ true
any_left test [] ys e = absurd (cc)
any_left test (x ∷ xs) ys e = go (test x) e (any_left test xs ys) where
  go : (b : Bool) → (b || list_any test xs) ≡ true → (list_any test xs ≡ true → list_any test (xs ++ ys) ≡ true) → (b || list_any test (xs ++ ys)) ≡ true
  go true e rest = refl
  go false e rest = rest e

any_right : {X : Type 0} (test : X → Bool) (xs ys : List X) → list_any test ys ≡ true → list_any test (xs ++ ys) ≡ true
any_right test [] ys e = e
any_right test (x ∷ xs) ys e = go (test x) (any_right test xs ys e) where
  go : (b : Bool) → list_any test (xs ++ ys) ≡ true → (b || list_any test (xs ++ ys)) ≡ true
  go true rest = refl
  go false rest = rest

module _ (calls : List RecordedCall) (n : ℕ) (call : RecordedCall) (at : call_at calls n ≡ Some call) (came : IsSome call.outcome) where
  placed_here : (era : ℕ) (step : Placed) → IsKnown calls era step → step.number ≡ n → place_of calls step ≡ Some (Answered n)
  placed_here era step k same =
      ap (option_and_then (place_as step)) k.recorded ∙ go k.replied where
        is_call : k.call ≡ call
        is_call = one k.call call (sym k.recorded ∙ ap (call_at calls) same ∙ at) where
          one : (c d : RecordedCall) → Some c ≡ Some d → c ≡ d
          one c d e = cc

        go : IsReplied k.call step → place_as step k.call ≡ Some (Answered n)
        go (inl quiet) = absurd (nothing (ap (λ (c : RecordedCall). c.outcome) (sym is_call) ∙ quiet.1)) where
          nothing : call.outcome ≡ None → ⊥
          nothing e = both (call.outcome) e came where
            both : (o : Option Outcome) → o ≡ None → IsSome o → ⊥
            both None e s = absurd (cc)
            both (Some x) e s = absurd (cc)
        go (inr told) = ap (λ (b : Bool). if b then Some (Answered step.number) else if is_recorded step then Some (Taken step.number (count_written step.outcome)) else None) told.0 ∙ ap (λ m. Some (Answered m)) same

  named_in : (era : ℕ) (steps : List Placed) → AreKnown calls era steps → IsPlacedIn steps n → list_any (λ p. number_of p == n) (ordered era (places_of calls steps)) ≡ true
  named_in era [] known among = absurd among
  named_in era (step ∷ steps) known (inl same) =
      ap (λ o. list_any (λ p. number_of p == n) (ordered era (cons_option o (places_of calls steps)))) (placed_here era step known.0 same)
      ∙ ap (λ b. b || list_any (λ p. number_of p == n) (ordered era (places_of calls steps))) (eq-eqb n n refl)
  named_in era (step ∷ steps) known (inr among) = go (place_of calls step) (named_in era steps known.1 among) where
    go : (o : Option Place) → list_any (λ p. number_of p == n) (ordered era (places_of calls steps)) ≡ true
        → list_any (λ p. number_of p == n) (ordered era (cons_option o (places_of calls steps))) ≡ true
    go None rest = rest
    go (Some place) rest = any_right (λ p. number_of p == n) (record { era = era; place = place } ∷ []) (ordered era (places_of calls steps)) rest

  named_somewhere : (era : ℕ) (over : List Over) (placed : List Placed) → AllKnown calls era over placed → IsPlaced over placed n → list_any (λ p. number_of p == n) (order_from era (plans calls over placed)) ≡ true
  named_somewhere era [] placed known among = any_left (λ p. number_of p == n) (ordered era (places_of calls placed)) [] (named_in era placed known among)
  named_somewhere era (first ∷ over) placed known (inl among) =
      any_left (λ p. number_of p == n) (ordered era (places_of calls first.steps)) (order_from (era + 1) (plans calls over placed)) (named_in era first.steps known.0 among)
  named_somewhere era (first ∷ over) placed known (inr among) =
      any_right (λ p. number_of p == n) (ordered era (places_of calls first.steps)) (order_from (era + 1) (plans calls over placed)) (named_somewhere (era + 1) over placed known.1 among)

wanted_came : (call : RecordedCall) → IsTrue (is_wanted call) → IsSome call.outcome
wanted_came call e = go (order.is_judged call.meaning) (is_some call.outcome) e where
  go : (a b : Bool) → (a && b) ≡ true → b ≡ true
  go true b e = e
  go false b e = absurd (cc)

-- ---- cuts

given_shorter : {X Y : Type 0} (h : X → Option Y) (n : ℕ) (xs : List X) → length (filter_map h (take n xs)) ≤ length (filter_map h xs)
given_shorter h zero xs = omega arith
given_shorter h (suc n) [] = omega arith
given_shorter h (suc n) (x ∷ xs) = go (h x) (given_shorter h n xs) where
  go : (o : Option _) → length (filter_map h (take n xs)) ≤ length (filter_map h xs) → length (cons_option o (filter_map h (take n xs))) ≤ length (cons_option o (filter_map h xs))
  go None rest = rest
  go (Some y) rest = omega (arith, rest)

cuts_within : (calls : List RecordedCall) (over : List Over) (placed : List Placed) → AllByRecursion (λ (era : EraPlan). IfSome era.cut (λ kept. kept ≤ length era.places)) (plans calls over placed)
cuts_within calls [] placed = (tt, tt)
cuts_within calls (era ∷ over) placed = (given_shorter (place_of calls) era.kept era.steps, cuts_within calls over placed)

plans_length : (calls : List RecordedCall) (over : List Over) (placed : List Placed) → length (plans calls over placed) ≡ length over + 1
plans_length calls [] placed = omega arith
plans_length calls (era ∷ over) placed = longer (plans_length calls over placed) where
  longer : length (plans calls over placed) ≡ length over + 1 → suc (length (plans calls over placed)) ≡ suc (length over) + 1
  longer e = omega (arith, e)

pub has_shape : (book : Book) → IsInvariant book → HasShape book.history.known.eras book.history.known.calls (plan_of book).eras
has_shape book i =
    let calls = book.history.known.calls in
    record {
      as_many_eras = plans_length calls book.over book.placed ∙ sym i.eras;
      of_their_eras = in_order calls (λ p. IsTrue (is_of_era calls p)) (λ era step place k is. of_era calls era step place k is) 1 book.over book.placed i.known;
      once = all_different calls 1 book.over book.placed i.known i.distinct;
      right = in_order calls (λ p. IsTrue (is_placeable calls p)) (λ era step place k is. placeable calls era step place k is) 1 book.over book.placed i.known;
      complete = λ n call at wanted. named_somewhere calls n call at (wanted_came call wanted) 1 book.over book.placed i.known (i.complete n call at (wanted_came call wanted));
      cuts = cuts_within calls book.over book.placed;
    }
