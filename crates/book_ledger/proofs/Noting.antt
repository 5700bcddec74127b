-- lists of calls with one more placed
use Rattle.tree_starts.specs.Start.{object_made}
use Rattle.std.specs.List.{range_with_len}
use Rattle.std.proofs.Common.{◌≡◌, ◌≢◌, ◌⊎◌, inl, inr, ℕ, zero, suc, ◌+◌, ◌-◌, ◌<◌, ◌≤◌, Bool, true, false, List, [], ◌∷◌, ◌++◌, length, map, Some, refl, sym, ap, ◌∙◌, subst, arith}
use Rattle.std.specs.Prelude.{if◌then◌else◌, ◌==◌, slice_get, slice_set}
use Rattle.std.specs.List.{AllByRecursion}
use Rattle.std.proofs.lemmas.Bool.{lt-ltb, le-ltb, eqb-true}
use Rattle.std.proofs.lemmas.List.{length-set}
use Rattle.nfs_history.specs.declared.recorded.RecordedCall.{RecordedCall}
use Rattle.nfs_history.specs.Precedence.{call_at}
use Rattle.tree_nodes.proofs.Chains.{decide, differ}
use Rattle.std.proofs.Common.{eq-eqb}
use Rattle.book_laws.specs.Placing.{records_in}
use Rattle.book_laws.specs.Steps.{with_object, IsUnplaced}
use Rattle.book_laws.proofs.Stable.{records_append}
use Rattle.book_ledger.specs.declared.placed.PlacedCall.{PlacedCall}
use Rattle.book_ledger.specs.declared.placed.CallState.{CallState}
use Rattle.book_ledger.specs.Inside.{made_in, AreAsked, IsAsked, placed_in, made_from, AreCounted}
use Rattle.book_laws.proofs.Starting.{all_numbers}
use Rattle.book_ledger.proofs.Parts.{Parts, HavePlaces}

-- ---- an item of a list

pub get_set : {X : Type 0} (xs : List X) (i : ℕ) (v : X) → i < length xs → slice_get (slice_set xs i v) i ≡ Some v
get_set [] i v lt = absurd (omega (arith, lt))
get_set (x ∷ xs) zero v lt = refl
get_set (x ∷ xs) (suc i) v lt = get_set xs i v (omega (arith, lt))

pub get_other : {X : Type 0} (xs : List X) (i j : ℕ) (v : X) → j ≢ i → slice_get (slice_set xs i v) j ≡ slice_get xs j
get_other [] i j v apart = refl
get_other (x ∷ xs) zero zero v apart = absurd (apart refl)
get_other (x ∷ xs) zero (suc j) v apart = refl
get_other (x ∷ xs) (suc i) zero v apart = refl
get_other (x ∷ xs) (suc i) (suc j) v apart = get_other xs i j v (λ same. apart (ap suc same))

pub get_ahead : {X : Type 0} (xs : List X) (last y : X) (k : ℕ) → slice_get xs k ≡ Some y → slice_get (xs ++ last ∷ []) k ≡ Some y
get_ahead [] last y k e = absurd (cc)
get_ahead (x ∷ xs) last y zero e = e
get_ahead (x ∷ xs) last y (suc k) e = get_ahead xs last y k e

pub get_last : {X : Type 0} (xs : List X) (last : X) → slice_get (xs ++ last ∷ []) (length xs) ≡ Some last
get_last [] last = refl
get_last (x ∷ xs) last = get_last xs last

pub get_either : {X : Type 0} (xs : List X) (last y : X) (k : ℕ) → slice_get (xs ++ last ∷ []) k ≡ Some y → (slice_get xs k ≡ Some y) ⊎ ((k ≡ length xs) × (last ≡ y))
get_either [] last y zero e = inr (refl, same e) where
  same : Some last ≡ Some y → last ≡ y
  same f = cc
get_either [] last y (suc k) e = absurd (cc)
get_either (x ∷ xs) last y zero e = inl e
get_either (x ∷ xs) last y (suc k) e = go (get_either xs last y k e) where
  go : (slice_get xs k ≡ Some y) ⊎ ((k ≡ length xs) × (last ≡ y)) → (slice_get xs k ≡ Some y) ⊎ ((suc k ≡ suc (length xs)) × (last ≡ y))
  go (inl f) = inl f
  go (inr f) = inr (ap suc f.0, f.1)

pub has_at : {X : Type 0} (P : X → Type 0) (xs : List X) (k : ℕ) (x : X) → AllByRecursion P xs → slice_get xs k ≡ Some x → P x
has_at P [] k x all e = absurd (cc)
has_at P (y ∷ xs) zero x all e = subst P (same e) all.0 where
  same : Some y ≡ Some x → y ≡ x
  same f = cc
has_at P (y ∷ xs) (suc k) x all e = has_at P xs k x all.1 e

-- ---- the objects that were made

with_first : (n : ℕ) (xs : List ℕ) → AllByRecursion (λ x. n < x) xs → with_object n xs ≡ n ∷ xs
with_first n [] all = refl
with_first n (x ∷ xs) all = ap (λ (b : Bool). if b then n ∷ x ∷ xs else x ∷ with_object n xs) (lt-ltb n x all.0)

with_behind : (n first : ℕ) (xs : List ℕ) → first < n → with_object n (first ∷ xs) ≡ first ∷ with_object n xs
with_behind n first xs lt = ap (λ (b : Bool). if b then n ∷ first ∷ xs else first ∷ with_object n xs) (le-ltb n first (omega (arith, lt)))

made_high : (low start : ℕ) (calls : List CallState) → low < start → AllByRecursion (λ x. low < x) (made_from start calls)
made_high low start [] lt = tt
made_high low start (state ∷ calls) lt = go state.made (made_high low (start + 1) calls (omega (arith, lt))) where
  go : (b : Bool) → AllByRecursion (λ x. low < x) (made_from (start + 1) calls) → AllByRecursion (λ x. low < x) (if b then start ∷ made_from (start + 1) calls else made_from (start + 1) calls)
  go true rest = (lt, rest)
  go false rest = rest

one_of : {old state : CallState} → Some state ≡ Some old → state ≡ old
one_of e = cc

-- a call that made its object, and hadn't
pub made_more : (calls : List CallState) (k start : ℕ) (old new : CallState) → slice_get calls k ≡ Some old → old.made ≡ false → new.made ≡ true
    → made_from start (slice_set calls k new) ≡ with_object (start + k) (made_from start calls)
made_more [] k start old new at hadnt has = absurd (cc)
made_more (state ∷ calls) zero start old new at hadnt has =
    let none : state.made ≡ false = ap (λ (s : CallState). s.made) (one_of at) ∙ hadnt in
    let rest = made_from (start + 1) calls in
    let here : start ≡ start + 0 = omega arith in
    ap (λ (b : Bool). if b then start ∷ rest else rest) has ∙ sym (with_first start rest (made_high start (start + 1) calls (omega arith)))
    ∙ ap (λ (n : ℕ). with_object n rest) here ∙ ap (λ (b : Bool). with_object (start + 0) (if b then start ∷ rest else rest)) (sym none)
made_more (state ∷ calls) (suc k) start old new at hadnt has = go state.made (made_more calls k (start + 1) old new at hadnt has) where
  further : start + 1 + k ≡ start + suc k
  further = omega arith

  go : (b : Bool) → made_from (start + 1) (slice_set calls k new) ≡ with_object (start + 1 + k) (made_from (start + 1) calls)
      → (if b then start ∷ made_from (start + 1) (slice_set calls k new) else made_from (start + 1) (slice_set calls k new))
      ≡ with_object (start + suc k) (if b then start ∷ made_from (start + 1) calls else made_from (start + 1) calls)
  go true rest =
      ap (λ (xs : List ℕ). start ∷ xs) (rest ∙ ap (λ (n : ℕ). with_object n (made_from (start + 1) calls)) further)
      ∙ sym (with_behind (start + suc k) start (made_from (start + 1) calls) (omega arith))
  go false rest = rest ∙ ap (λ (n : ℕ). with_object n (made_from (start + 1) calls)) further

-- one that didn't
pub made_same : (calls : List CallState) (k start : ℕ) (old new : CallState) → slice_get calls k ≡ Some old → old.made ≡ new.made → made_from start (slice_set calls k new) ≡ made_from start calls
made_same [] k start old new at same = refl
made_same (state ∷ calls) zero start old new at same =
    ap (λ (b : Bool). if b then start ∷ made_from (start + 1) calls else made_from (start + 1) calls) (sym same ∙ ap (λ (s : CallState). s.made) (sym (one_of at)))
made_same (state ∷ calls) (suc k) start old new at same =
    ap (λ (xs : List ℕ). if state.made then start ∷ xs else xs) (made_same calls k (start + 1) old new at same)

-- what isn't among the objects wasn't made
pub hadnt_made : (calls : List CallState) (k start : ℕ) (old : CallState) → slice_get calls k ≡ Some old → AllByRecursion (λ x. x ≢ start + k) (made_from start calls) → old.made ≡ false
hadnt_made [] k start old at apart = absurd (cc)
hadnt_made (state ∷ calls) zero start old at apart = go state.made refl apart where
  go : (b : Bool) → state.made ≡ b → AllByRecursion (λ x. x ≢ start + 0) (if b then start ∷ made_from (start + 1) calls else made_from (start + 1) calls) → old.made ≡ false
  go true is all = absurd (all.0 (omega arith))
  go false is all = sym (ap (λ (s : CallState). s.made) (one_of at)) ∙ is
hadnt_made (state ∷ calls) (suc k) start old at apart =
    hadnt_made calls k (start + 1) old at (subst (λ (n : ℕ). AllByRecursion (λ x. x ≢ n) (made_from (start + 1) calls)) further (go state.made apart)) where
      further : start + suc k ≡ start + 1 + k
      further = omega arith

      go : (b : Bool) → AllByRecursion (λ x. x ≢ start + suc k) (if b then start ∷ made_from (start + 1) calls else made_from (start + 1) calls) → AllByRecursion (λ x. x ≢ start + suc k) (made_from (start + 1) calls)
      go true all = all.1
      go false all = all

-- ---- behind the objects that stood at first

-- an object past all of these goes behind them
with_past : (n : ℕ) (xs ys : List ℕ) → AllByRecursion (λ x. x < n) xs → with_object n (xs ++ ys) ≡ xs ++ with_object n ys
with_past n [] ys all = refl
with_past n (x ∷ xs) ys all = with_behind n x (xs ++ ys) all.0 ∙ ap (λ (zs : List ℕ). x ∷ zs) (with_past n xs ys all.1)

pub made_is : (first n : ℕ) → object_made first n ≡ first + n
made_is zero n = omega arith
made_is (suc first) n = refl

index_by : (first number : ℕ) → 1 ≤ number → first + 1 + (number - 1) ≡ object_made first number
index_by first number le = let is = made_is first number in omega (arith, is, le)

all_behind_these : (P : ℕ → Type 0) (xs ys : List ℕ) → AllByRecursion P (xs ++ ys) → AllByRecursion P ys
all_behind_these P [] ys all = all
all_behind_these P (x ∷ xs) ys all = all_behind_these P xs ys all.1

module _ (first : ℕ) (calls : List CallState) (number : ℕ) (le : 1 ≤ number) (old new : CallState) (at : slice_get calls (number - 1) ≡ Some old) where
  pub made_more_in : old.made ≡ false → new.made ≡ true → made_in first (slice_set calls (number - 1) new) ≡ with_object (object_made first number) (made_in first calls)
  made_more_in hadnt has =
      ap (λ (xs : List ℕ). range_with_len 1 first ++ xs)
      (made_more calls (number - 1) (first + 1) old new at hadnt has
      ∙ ap (λ (n : ℕ). with_object n (made_from (first + 1) calls)) (index_by first number le))
      ∙ sym (with_past (object_made first number) (range_with_len 1 first) (made_from (first + 1) calls)
      (all_numbers (λ k. k < object_made first number) 1 first (λ k from below. let is = made_is first number in omega (arith, is, below, le))))

  pub made_same_in : old.made ≡ new.made → made_in first (slice_set calls (number - 1) new) ≡ made_in first calls
  made_same_in same = ap (λ (xs : List ℕ). range_with_len 1 first ++ xs) (made_same calls (number - 1) (first + 1) old new at same)

  pub hadnt_made_in : AllByRecursion (λ x. x ≢ object_made first number) (made_in first calls) → old.made ≡ false
  hadnt_made_in apart =
      hadnt_made calls (number - 1) (first + 1) old at
      (subst (λ (n : ℕ). AllByRecursion (λ x. x ≢ n) (made_from (first + 1) calls)) (sym (index_by first number le))
      (all_behind_these (λ x. x ≢ object_made first number) (range_with_len 1 first) (made_from (first + 1) calls) apart))

-- ---- how many records there are

pub counted_more : (ahead : ℕ) (recorded : List RecordedCall) (placed : List PlacedCall) (last : PlacedCall) → AreCounted ahead recorded placed
    → last.records ≡ ahead + records_in (map (placed_in recorded) placed) + records_in (placed_in recorded last ∷ []) → AreCounted ahead recorded (placed ++ last ∷ [])
counted_more ahead recorded [] last counted is = (drop_zero ahead _ _ is, tt) where
  drop_zero : (a b c : ℕ) → c ≡ a + 0 + b → c ≡ a + b
  drop_zero a b c e = omega (arith, e)
counted_more ahead recorded (x ∷ placed) last counted is =
    let parts = records_append (placed_in recorded x ∷ []) (map (placed_in recorded) placed) in (
      counted.0,
      counted_more x.records recorded placed last counted.1
          (further last.records ahead (records_in (placed_in recorded x ∷ map (placed_in recorded) placed)) (records_in (placed_in recorded x ∷ [])) (records_in (map (placed_in recorded) placed))
          (records_in (placed_in recorded last ∷ [])) x.records is parts counted.0),
    ) where
      further : (r a all one rest last' x' : ℕ) → r ≡ a + all + last' → all ≡ one + rest → x' ≡ a + one → r ≡ x' + rest + last'
      further r a all one rest last' x' e f g = omega (arith, e, f, g)

-- ---- where each call stands

module _ (p : Parts) (number : ℕ) (last : PlacedCall) (made : Bool) (h : HavePlaces p) (named : last.number ≡ number) (from_one : 1 ≤ number) (within : number ≤ length p.calls)
    (unplaced : IsUnplaced (map (placed_in p.known.calls) p.placed) number) (asked : AreAsked p.known.calls p.placed) where
  abbrev noted : CallState
  noted = record { place = Some (length p.placed); made = made }

  abbrev pub placing : Parts
  placing = record p { placed = p.placed ++ last ∷ []; calls = slice_set p.calls (number - 1) noted }

  inside : number - 1 < length p.calls
  inside = omega (arith, from_one, within)

  one : {a b : CallState} → Some a ≡ Some b → a ≡ b
  one e = cc

  at_place : {n m : ℕ} → Some n ≡ Some m → n ≡ m
  at_place e = cc

  some_call : (n : ℕ) (call : RecordedCall) → call_at p.known.calls n ≡ Some call → 1 ≤ n
  some_call zero call e = absurd (cc)
  some_call (suc n) call e = omega arith

  same_number : (n m : ℕ) → 1 ≤ n → 1 ≤ m → n - 1 ≡ m - 1 → n ≡ m
  same_number n m a b e = omega (arith, a, b, e)

  other_at : (place : ℕ) (q : PlacedCall) → slice_get p.placed place ≡ Some q → q.number - 1 ≢ number - 1
  other_at place q found same =
      let known = has_at (λ (call : PlacedCall). IsAsked p.known.calls call.number) p.placed place q asked found in
      apart_at p.placed place unplaced found (same_number q.number number (some_call q.number known.0 known.2) from_one same) where
        apart_at : (xs : List PlacedCall) (k : ℕ) → IsUnplaced (map (placed_in p.known.calls) xs) number → slice_get xs k ≡ Some q → q.number ≢ number
        apart_at [] k all e = absurd (cc)
        apart_at (x ∷ xs) zero all e = subst (λ (c : PlacedCall). c.number ≢ number) (is e) all.0 where
          is : Some x ≡ Some q → x ≡ q
          is f = cc
        apart_at (x ∷ xs) (suc k) all e = apart_at xs k all.1 e

  pub places_more : HavePlaces placing
  places_more = record {
    count = length-set p.calls (number - 1) noted ∙ h.count;
    there = λ n place call state at era found has. there n place call state at era found has (decide (n - 1 == number - 1));
    has = λ place q found. has place q (get_either p.placed last q place found);
  } where
    there : (n place : ℕ) (call : RecordedCall) (state : CallState) → call_at p.known.calls n ≡ Some call → call.era ≡ p.known.eras → slice_get (slice_set p.calls (number - 1) noted) (n - 1) ≡ Some state
        → state.place ≡ Some place → ((n - 1 == number - 1) ≡ true) ⊎ ((n - 1 == number - 1) ≡ false)
        → (placed : PlacedCall) × (slice_get (p.placed ++ last ∷ []) place ≡ Some placed) × (placed.number ≡ n)
    there n place call state at era found is (inl same) =
        let index : n - 1 ≡ number - 1 = eqb-true (n - 1) (number - 1) same in
        let state_is = one (sym (get_set p.calls (number - 1) noted inside) ∙ ap (slice_get (slice_set p.calls (number - 1) noted)) (sym index) ∙ found) in
        let place_is = at_place (ap (λ (s : CallState). s.place) state_is ∙ is) in
        (last, subst (λ (k : ℕ). slice_get (p.placed ++ last ∷ []) k ≡ Some last) place_is (get_last p.placed last), named ∙ same_number number n from_one (some_call n call at) (sym index))
    there n place call state at era found is (inr apart) =
        let differs : n - 1 ≢ number - 1 = λ same. differ (n - 1 == number - 1) (eq-eqb (n - 1) (number - 1) same) apart in
        let old = h.there n place call state at era (sym (get_other p.calls (number - 1) (n - 1) noted differs) ∙ found) is in
        (old.0, get_ahead p.placed last old.0 place old.1, old.2)

    has : (place : ℕ) (q : PlacedCall) → (slice_get p.placed place ≡ Some q) ⊎ ((place ≡ length p.placed) × (last ≡ q))
        → (state : CallState) × (slice_get (slice_set p.calls (number - 1) noted) (q.number - 1) ≡ Some state) × (state.place ≡ Some place)
    has place q (inl found) =
        let old = h.has place q found in
        (old.0, get_other p.calls (number - 1) (q.number - 1) noted (other_at place q found) ∙ old.1, old.2)
    has place q (inr at_end) =
        let index : number - 1 ≡ q.number - 1 = ap (λ (k : ℕ). k - 1) (sym named ∙ ap (λ (c : PlacedCall). c.number) at_end.1) in
        (noted, subst (λ (k : ℕ). slice_get (slice_set p.calls (number - 1) noted) k ≡ Some noted) index (get_set p.calls (number - 1) noted inside), ap Some (sym at_end.0))
