-- the plans of a book, worked out call by call
use Rattle.std.proofs.Common.{◌≡◌, ℕ, zero, suc, ◌+◌, ◌<◌, ◌≤◌, Bool, true, false, List, [], ◌∷◌, ◌++◌, length, map, take, drop, get_or, Option, Some, None, refl, sym, ap, ◌∙◌, subst, arith}
use Rattle.std.specs.Prelude.{if◌then◌else◌}
use Rattle.std.specs.List.{AllByRecursion, filter_map, cons_option}
use Rattle.std.proofs.lemmas.List.{append_assoc}
use Rattle.nfs_history.specs.declared.recorded.RecordedCall.{RecordedCall}
use Rattle.certificate.specs.declared.plan.Place.{Place}
use Rattle.certificate.specs.declared.plan.Bind.{Bind}
use Rattle.certificate.specs.declared.plan.EraPlan.{EraPlan}
use Rattle.journal.specs.Device.{Device}
use Rattle.book_laws.specs.Placing.{Placed, front_with, is_recorded}
use Rattle.book_laws.specs.Book.{handle_of}
use Rattle.book_laws.specs.Plan.{bind_of, place_of, places_of, plan_over}
use Rattle.book_laws.proofs.Invariant.{AreKnown, AllKnown, IsCutSafely}
use Rattle.book_ledger.specs.declared.placed.PlacedCall.{PlacedCall}
use Rattle.book_ledger.specs.declared.placed.EraOver.{EraOver}
use Rattle.book_ledger.specs.declared.placed.CallState.{CallState}
use Rattle.book_ledger.specs.declared.ledger.Ledger.{Ledger}
use Rattle.book_ledger.specs.Inside.{placed_in, era_in, made_from, book_of, AreTied, AreAsked, ArePlannable}
use Rattle.book_ledger.proofs.Runs.{sound}

-- what holds of all holds of each
pub all_at : {X : Type 0} (P : X → Type 0) (xs : List X) (i : ℕ) (x : X) → AllByRecursion P xs → i < length xs → x ≡ get_or xs i x → P x
all_at P [] i x all lt is = absurd (none lt) where
  none : i < 0 → ⊥
  none f = omega (arith, f)
all_at P (y ∷ xs) zero x all lt is = subst P (sym is) all.0
all_at P (y ∷ xs) (suc i) x all lt is = all_at P xs i x all.1 (omega (arith, lt)) is

-- ---- places

abbrev pub places_in : List RecordedCall → List PlacedCall → List Place
places_in recorded placed = places_of recorded (map (placed_in recorded) placed)

pub places_more : (recorded : List RecordedCall) (front : List Place) (xs : List PlacedCall) (i : ℕ) (x : PlacedCall) (all : List Place) → i < length xs → x ≡ get_or xs i x
    → front ++ places_in recorded (drop i xs) ≡ all → (front ++ cons_option (place_of recorded (placed_in recorded x)) []) ++ places_in recorded (drop (suc i) xs) ≡ all
places_more recorded front [] i x all lt is e = absurd (none lt) where
  none : i < 0 → ⊥
  none f = omega (arith, f)
places_more recorded front (y ∷ xs) zero x all lt is e =
    append_assoc front (cons_option (place_of recorded (placed_in recorded x)) []) (places_in recorded xs)
    ∙ ap (λ (zs : List Place). front ++ zs) (joined (place_of recorded (placed_in recorded x)) (places_in recorded xs) ∙ ap (λ (z : PlacedCall). cons_option (place_of recorded (placed_in recorded z)) (places_in recorded xs)) is) ∙ e where
      joined : (o : Option Place) (zs : List Place) → cons_option o [] ++ zs ≡ cons_option o zs
      joined None zs = refl
      joined (Some z) zs = refl
places_more recorded front (y ∷ xs) (suc i) x all lt is e = places_more recorded front xs i x all (omega (arith, lt)) is e

-- ---- binds

abbrev pub bind_if : Bool → ℕ → List Bind
bind_if made object = if made then bind_of object ∷ [] else []

pub binds_more : (front : List Bind) (xs : List CallState) (i k : ℕ) (made : Bool) (x : CallState) (all : List Bind) → i < length xs → made ≡ x.made → x ≡ get_or xs i x
    → front ++ map bind_of (made_from k (drop i xs)) ≡ all → (front ++ bind_if made k) ++ map bind_of (made_from (k + 1) (drop (suc i) xs)) ≡ all
binds_more front [] i k made x all lt of is e = absurd (none lt) where
  none : i < 0 → ⊥
  none f = omega (arith, f)
binds_more front (y ∷ xs) zero k made x all lt of is e =
    append_assoc front (bind_if made k) (map bind_of (made_from (k + 1) xs)) ∙ ap (λ (zs : List Bind). front ++ zs) (joined made (made_from (k + 1) xs))
    ∙ ap (λ (b : Bool). front ++ map bind_of (if b then k ∷ made_from (k + 1) xs else made_from (k + 1) xs)) (of ∙ ap (λ (z : CallState). z.made) is) ∙ e where
      joined : (b : Bool) (rest : List ℕ) → bind_if b k ++ map bind_of rest ≡ map bind_of (if b then k ∷ rest else rest)
      joined true rest = refl
      joined false rest = refl
binds_more front (y ∷ xs) (suc i) k made x all lt of is e = binds_more front xs i k made x all (omega (arith, lt)) of is e

default_any : {X : Type 0} (xs : List X) (i : ℕ) (d e : X) → i < length xs → get_or xs i d ≡ get_or xs i e
default_any [] i d e lt = absurd (none lt) where
  none : i < 0 → ⊥
  none f = omega (arith, f)
default_any (x ∷ xs) zero d e lt = refl
default_any (x ∷ xs) (suc i) d e lt = default_any xs i d e (omega (arith, lt))

-- the same, of the item that was read, and its object by its number
pub binds_grown : (front grown all : List Bind) (xs : List CallState) (i k object next later : ℕ) (d : CallState) → i < length xs → object ≡ k → next ≡ k + 1 → later ≡ suc i
    → grown ≡ front ++ bind_if (get_or xs i d).made object → front ++ map bind_of (made_from k (drop i xs)) ≡ all → grown ++ map bind_of (made_from next (drop later xs)) ≡ all
binds_grown front grown all xs i k object next later d lt is further behind e so =
    let item = get_or xs i d in
    ap (λ (n : ℕ). grown ++ map bind_of (made_from next (drop n xs))) behind
    ∙ ap (λ (bs : List Bind). bs ++ map bind_of (made_from next (drop (suc i) xs))) (e ∙ ap (λ (n : ℕ). front ++ bind_if item.made n) is)
    ∙ ap (λ (n : ℕ). (front ++ bind_if item.made k) ++ map bind_of (made_from n (drop (suc i) xs))) further
    ∙ binds_more front xs i k item.made item all lt refl (default_any xs i d item lt) so

pub bound_so : (front all : List Bind) (handle : List ℕ) (object : ℕ) (made : Bool) → all ≡ front ++ record { handle = handle; object = object } ∷ [] → handle ≡ handle_of object → made ≡ true
    → all ≡ front ++ bind_if made object
bound_so front all handle object made e h is = e ∙ (λ i. front ++ record { handle = h i; object = object } ∷ []) ∙ ap (λ (b : Bool). front ++ bind_if b object) (sym is)

-- ---- eras

pub asked_all : (recorded : List RecordedCall) (e : ℕ) (xs : List PlacedCall) → AreKnown recorded e (map (placed_in recorded) xs) → AreAsked recorded xs
asked_all recorded e [] known = tt
asked_all recorded e (x ∷ xs) known = ((known.0.call, (placed_in recorded x).call, known.0.recorded, known.0.judged), asked_all recorded e xs known.1)

asked_last : (recorded : List RecordedCall) (e : ℕ) (over : List EraOver) (xs : List PlacedCall) → AllKnown recorded e (map (era_in recorded) over) (map (placed_in recorded) xs) → AreAsked recorded xs
asked_last recorded e [] xs known = asked_all recorded e xs known
asked_last recorded e (x ∷ over) xs known = asked_last recorded (e + 1) over xs known.1

front_within : (count : ℕ) (steps : List Placed) → front_with count steps ≤ length steps
front_within zero steps = omega arith
front_within (suc count) [] = omega arith
front_within (suc count) (step ∷ steps) = go (is_recorded step) (λ n. front_within n steps) where
  go : (b : Bool) → ((n : ℕ) → front_with n steps ≤ length steps) → suc (front_with (if b then count else suc count) steps) ≤ suc (length steps)
  go true rest = omega (arith, rest count)
  go false rest = omega (arith, rest (suc count))

map_length : {X Y : Type 0} (f : X → Y) (xs : List X) → length (map f xs) ≡ length xs
map_length f [] = refl
map_length f (x ∷ xs) = ap suc (map_length f xs)

plannable_all : (recorded calls : List RecordedCall) (e : ℕ) (over : List EraOver) (placed : List Placed) → AllKnown recorded e (map (era_in recorded) over) placed
    → AllByRecursion (IsCutSafely calls) (map (era_in recorded) over) → ArePlannable recorded over
plannable_all recorded calls e [] placed known cuts = tt
plannable_all recorded calls e (x ∷ over) placed known cuts = (
  record {
    asked = asked_all recorded e x.placed.items known.0;
    within =
        (let longest = front_within cuts.0.count (map (placed_in recorded) x.placed.items) in
        let same = map_length (placed_in recorded) x.placed.items in
        omega (arith, cuts.0.front, longest, same));
  },
  plannable_all recorded calls (e + 1) over placed known.1 cuts.1,
)

module _ (ledger : Ledger) (device : Device) (t : AreTied ledger device) where
  pub plannable : ArePlannable ledger.history.known.calls ledger.over.items
  plannable =
      let i = (sound (book_of ledger device) t.reached).invariant in
      plannable_all ledger.history.known.calls ledger.history.known.calls 1 ledger.over.items (map (placed_in ledger.history.known.calls) ledger.placed.items) i.known i.cuts

  pub asked_now : AreAsked ledger.history.known.calls ledger.placed.items
  asked_now = asked_last ledger.history.known.calls 1 ledger.over.items ledger.placed.items (sound (book_of ledger device) t.reached).invariant.known

-- ---- the plan of an era that is over

filter_map_append : {X Y : Type 0} (h : X → Option Y) (xs ys : List X) → filter_map h (xs ++ ys) ≡ filter_map h xs ++ filter_map h ys
filter_map_append h [] ys = refl
filter_map_append {X} {Y} h (x ∷ xs) ys = go (h x) (filter_map_append h xs ys) where
  go : (o : Option Y) → filter_map h (xs ++ ys) ≡ filter_map h xs ++ filter_map h ys → cons_option o (filter_map h (xs ++ ys)) ≡ cons_option o (filter_map h xs) ++ filter_map h ys
  go None e = e
  go (Some y) e = ap (λ (zs : List Y). y ∷ zs) e

map_append : {X Y : Type 0} (f : X → Y) (xs ys : List X) → map f (xs ++ ys) ≡ map f xs ++ map f ys
map_append f [] ys = refl
map_append {X} {Y} f (x ∷ xs) ys = ap (λ (zs : List Y). f x ∷ zs) (map_append f xs ys)

take_map : {X Y : Type 0} (f : X → Y) (n : ℕ) (xs : List X) → map f (take n xs) ≡ take n (map f xs)
take_map f zero xs = refl
take_map f (suc n) [] = refl
take_map {X} {Y} f (suc n) (x ∷ xs) = ap (λ (zs : List Y). f x ∷ zs) (take_map f n xs)

front_and_rest : {X : Type 0} (n : ℕ) (xs : List X) → take n xs ++ drop n xs ≡ xs
front_and_rest zero xs = refl
front_and_rest (suc n) [] = refl
front_and_rest {X} (suc n) (x ∷ xs) = ap (λ (zs : List X). x ∷ zs) (front_and_rest n xs)

pub plan_so : (recorded : List RecordedCall) (era : EraOver) (front behind : List PlacedCall) (places lost whole : List Place) (cut : ℕ) → front ≡ take era.kept era.placed.items → behind ≡ drop era.kept era.placed.items
    → places ≡ places_in recorded front → lost ≡ places_in recorded behind → cut ≡ length places → whole ≡ places ++ lost → (record { places = whole; cut = Some cut }) ≡ plan_over recorded (era_in recorded era)
plan_so recorded era front behind places lost whole cut f b p l c w =
    let items = era.placed.items in
    let kept : places ≡ places_of recorded (take era.kept (map (placed_in recorded) items)) = p ∙ ap (places_in recorded) f ∙ ap (places_of recorded) (take_map (placed_in recorded) era.kept items) in
    let all : whole ≡ places_in recorded items =
    w ∙ ap (λ (zs : List Place). zs ++ lost) p ∙ ap (λ (zs : List Place). places_in recorded front ++ zs) l
    ∙ sym (filter_map_append (place_of recorded) (map (placed_in recorded) front) (map (placed_in recorded) behind))
    ∙ ap (places_of recorded) (sym (map_append (placed_in recorded) front behind))
    ∙ ap (places_in recorded) (ap (λ (zs : List PlacedCall). zs ++ behind) f ∙ ap (λ (zs : List PlacedCall). take era.kept items ++ zs) b ∙ front_and_rest era.kept items) in
    let size : cut ≡ length (places_of recorded (take era.kept (map (placed_in recorded) items))) = c ∙ ap length kept in
    λ i. record { places = all i; cut = Some (size i) }

pub plans_more : (recorded : List RecordedCall) (front : List EraPlan) (xs : List EraOver) (i : ℕ) (x : EraOver) (all : List EraPlan) → i < length xs → x ≡ get_or xs i x
    → front ++ map (plan_over recorded) (map (era_in recorded) (drop i xs)) ≡ all → (front ++ plan_over recorded (era_in recorded x) ∷ []) ++ map (plan_over recorded) (map (era_in recorded) (drop (suc i) xs)) ≡ all
plans_more recorded front [] i x all lt is e = absurd (none lt) where
  none : i < 0 → ⊥
  none f = omega (arith, f)
plans_more recorded front (y ∷ xs) zero x all lt is e =
    append_assoc front (plan_over recorded (era_in recorded x) ∷ []) (map (plan_over recorded) (map (era_in recorded) xs))
    ∙ ap (λ (z : EraOver). front ++ plan_over recorded (era_in recorded z) ∷ map (plan_over recorded) (map (era_in recorded) xs)) is ∙ e
plans_more recorded front (y ∷ xs) (suc i) x all lt is e = plans_more recorded front xs i x all (omega (arith, lt)) is e
