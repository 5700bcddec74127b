-- slots as a map
use Rattle.std.proofs.Common.{◌≡◌, ◌⊎◌, inl, inr, ℕ, zero, suc, ◌+◌, ◌-◌, ◌<◌, ◌≤◌, Bool, true, false, cond, T, List, [], ◌∷◌, length, get_or, set, Option, Some, None, is_some, refl, sym, ap, subst, ◌∙◌, zero-add, arith}
use Rattle.std.specs.Prelude.{◌&&◌}
use Rattle.std.specs.declared.cmp.Ordering.{Ordering}
use Rattle.std.specs.declared.cmp.Ordering.TheVariants.{Less}
use Rattle.std.specs.Ordering.{nat_cmp, eq_by_cmp, is_lt}
use Rattle.std.specs.Cmp.{nat_cmp_total, nat_cmp_is, unsigned_tied}
use Rattle.std.specs.FinMap as map
use Rattle.std.specs.FinMap.Entries as es
use Rattle.std.proofs.lemmas.Bool.{cases_eq, cases_lt, eq-eqb, ne_eqb}
use Rattle.std.proofs.lemmas.List.{get_or-set_same, get_or-set_other, get_or_read}
use Rattle.tree_stores.specs.declared.slots.slot.Slot.{Slot}
use Rattle.tree_stores.specs.declared.slots.slot.Slot.TheVariants.{Empty, Filled}
use Rattle.tree_stores.specs.Slots.{value_of, entries_from, map_of}

same : (m n : ℕ) → m ≡ n → eq_by_cmp nat_cmp m n ≡ true
same m n e = unsigned_tied m n ∙ eq-eqb m n e

other : (m n : ℕ) → (m ≡ n → ⊥) → eq_by_cmp nat_cmp m n ≡ false
other m n ne = unsigned_tied m n ∙ ne_eqb m n ne

both : (a b : Bool) → T a → T b → T (a && b)
both true b p q = q
both false b p q = absurd p

none_is : {A : Type 0} (o : Option A) → is_some o ≡ false → o ≡ None
none_is None e = refl
none_is (Some x) e = absurd (cc)

some_is : {A : Type 0} (o : Option A) → is_some o ≡ true → (x : A) × (o ≡ Some x)
some_is None e = absurd (cc)
some_is (Some x) e = (x, refl)

less : (m n : ℕ) → m < n → T (is_lt (nat_cmp m n))
less m n lt = subst (λ (o : Ordering). T (is_lt o)) (nat_cmp_is m n Less lt) tt

-- ---- maps by numbers
module _ {V : Type 0} (m : map.FinMap nat_cmp V) (k : ℕ) where
  pub len_one_more : (v : V) → map.get m k ≡ None → map.len (map.insert m k v) ≡ map.len m + 1
  len_one_more v none = map.len-insert nat_cmp_total m k v ∙ ap (λ (o : Option V). cond (is_some o) (map.len m) (map.len m + 1)) none

  pub len_stays : (v w : V) → map.get m k ≡ Some w → map.len (map.insert m k v) ≡ map.len m
  len_stays v w there = map.len-insert nat_cmp_total m k v ∙ ap (λ (o : Option V). cond (is_some o) (map.len m) (map.len m + 1)) there

  pub has_one : (v : V) → map.get m k ≡ Some v → 1 ≤ map.len m
  has_one v there = go (cases_lt 0 (map.len m)) where
    go : (0 < map.len m) ⊎ (map.len m ≤ 0) → 1 ≤ map.len m
    go (inl lt) = omega arith
    go (inr le) = absurd (cc (sym there ∙ ap (λ (z : map.FinMap nat_cmp V). map.get z k) (map.empty_of_len m (omega arith)) ∙ map.get-empty nat_cmp k))

  pub len_one_less : (v : V) → map.get m k ≡ Some v → map.len (map.remove m k) + 1 ≡ map.len m
  len_one_less v there =
      let less = map.len-remove nat_cmp_total m k ∙ ap (λ (o : Option V). cond (is_some o) (map.len m - 1) (map.len m)) there in
      omega (arith, less, has_one v there)

  pub removed_none : map.get m k ≡ None → map.remove m k ≡ m
  removed_none none = map.same_map nat_cmp_total map.nat_cmp-IsAntisymmetric _ _ (λ q. map.get-remove nat_cmp_total m k q ∙ go q (cases_eq q k)) where
    go : (q : ℕ) → (q ≡ k) ⊎ (q ≡ k → ⊥) → cond (eq_by_cmp nat_cmp q k) None (map.get m q) ≡ map.get m q
    go q (inl is) = ap (λ t. cond t None (map.get m q)) (same q k is) ∙ sym none ∙ sym (ap (map.get m) is)
    go q (inr ne) = ap (λ t. cond t None (map.get m q)) (other q k ne)

module _ {V : Type 0} where
  -- no number before the first one has a value
  none_before : (q n : ℕ) (xs : List (Slot V)) → q < n → es.find nat_cmp q (entries_from n xs) ≡ None
  none_before q n [] lt = refl
  none_before q n (Empty ∷ xs) lt = none_before q (n + 1) xs (omega arith)
  none_before q n (Filled b ∷ xs) lt =
      ap (λ t. cond t (Some b) (es.find nat_cmp q (entries_from (n + 1) xs))) (other q n (λ e. omega arith)) ∙ none_before q (n + 1) xs (omega arith)

  -- a number has the value of its slot
  find_from : (n k : ℕ) (xs : List (Slot V)) → es.find nat_cmp (n + k) (entries_from n xs) ≡ value_of (get_or xs k Empty)
  find_from n k [] = refl
  find_from n zero (Empty ∷ xs) = none_before (n + 0) (n + 1) xs (omega arith)
  find_from n zero (Filled b ∷ xs) = ap (λ t. cond t (Some b) (es.find nat_cmp (n + 0) (entries_from (n + 1) xs))) (same (n + 0) n (omega arith))
  find_from n (suc k) (Empty ∷ xs) =
      let shift : n + suc k ≡ n + 1 + k = omega arith in
      ap (λ q. es.find nat_cmp q (entries_from (n + 1) xs)) shift ∙ find_from (n + 1) k xs
  find_from n (suc k) (Filled b ∷ xs) =
      let shift : n + suc k ≡ n + 1 + k = omega arith in
      ap (λ t. cond t (Some b) (es.find nat_cmp (n + suc k) (entries_from (n + 1) xs))) (other (n + suc k) n (λ e. omega arith))
      ∙ ap (λ q. es.find nat_cmp q (entries_from (n + 1) xs)) shift ∙ find_from (n + 1) k xs

  all_above : (m n : ℕ) (xs : List (Slot V)) → m < n → T (es.below_all nat_cmp m (entries_from n xs))
  all_above m n [] lt = tt
  all_above m n (Empty ∷ xs) lt = all_above m (n + 1) xs (omega arith)
  all_above m n (Filled b ∷ xs) lt = both _ _ (less m n lt) (all_above m (n + 1) xs (omega arith))

  -- the numbers rise
  rises : (n : ℕ) (xs : List (Slot V)) → T (es.is_sorted nat_cmp (entries_from n xs))
  rises n [] = tt
  rises n (Empty ∷ xs) = rises (n + 1) xs
  rises n (Filled b ∷ xs) = both _ _ (all_above n (n + 1) xs (omega arith)) (rises (n + 1) xs)

  pub entries-map_of : (xs : List (Slot V)) → map.entries (map_of xs) ≡ entries_from 0 xs
  entries-map_of xs = map.entries-from_sorted nat_cmp (entries_from 0 xs) (rises 0 xs)

  pub map_of_none : map_of {V = V} [] ≡ map.empty
  map_of_none = map.same_map nat_cmp_total map.nat_cmp-IsAntisymmetric _ _ (λ q. map.get-from_sorted nat_cmp [] q tt ∙ sym (map.get-empty nat_cmp q))

  pub get-map_of : (xs : List (Slot V)) (k : ℕ) → map.get (map_of xs) k ≡ value_of (get_or xs k Empty)
  get-map_of xs k =
      map.get-from_sorted nat_cmp (entries_from 0 xs) k (rises 0 xs) ∙ ap (λ q. es.find nat_cmp q (entries_from 0 xs)) (sym (zero-add k)) ∙ find_from 0 k xs

  -- what a look-up in the slots gives
  pub get_within : (xs : List (Slot V)) (k : ℕ) (s : Slot V) → k < length xs → s ≡ get_or xs k s → map.get (map_of xs) k ≡ value_of s
  get_within xs k s lt e = get-map_of xs k ∙ ap value_of (sym (get_or_read xs k s lt e Empty))

  -- ---- another slot

  changed : (xs : List (Slot V)) (k : ℕ) (s : Slot V) → k < length xs → (q : ℕ) → map.get (map_of (set xs k s)) q ≡ cond (eq_by_cmp nat_cmp q k) (value_of s) (map.get (map_of xs) q)
  changed xs k s lt q = get-map_of (set xs k s) q ∙ go (cases_eq q k) where
    go : (q ≡ k) ⊎ (q ≡ k → ⊥) → value_of (get_or (set xs k s) q Empty) ≡ cond (eq_by_cmp nat_cmp q k) (value_of s) (map.get (map_of xs) q)
    go (inl is) =
        ap (λ z. value_of (get_or (set xs k s) z Empty)) is ∙ ap value_of (get_or-set_same xs k s Empty lt)
        ∙ sym (ap (λ t. cond t (value_of s) (map.get (map_of xs) q)) (same q k is))
    go (inr ne) =
        ap value_of (get_or-set_other xs k q s Empty ne) ∙ sym (get-map_of xs q)
        ∙ sym (ap (λ t. cond t (value_of s) (map.get (map_of xs) q)) (other q k ne))

  pub filled_slot : (xs : List (Slot V)) (k : ℕ) (s : Slot V) (v : V) → k < length xs → value_of s ≡ Some v → map_of (set xs k s) ≡ map.insert (map_of xs) k v
  filled_slot xs k s v lt is = map.same_map nat_cmp_total map.nat_cmp-IsAntisymmetric _ _ (λ q.
      changed xs k s lt q ∙ ap (λ o. cond (eq_by_cmp nat_cmp q k) o (map.get (map_of xs) q)) is ∙ sym (map.get-insert nat_cmp_total (map_of xs) k v q))

  pub emptied_slot : (xs : List (Slot V)) (k : ℕ) → k < length xs → map_of (set xs k Empty) ≡ map.remove (map_of xs) k
  emptied_slot xs k lt = map.same_map nat_cmp_total map.nat_cmp-IsAntisymmetric _ _ (λ q. changed xs k Empty lt q ∙ sym (map.get-remove nat_cmp_total (map_of xs) k q))

  -- ---- how many

  shorter : (n : ℕ) (xs : List (Slot V)) → length (entries_from n xs) ≤ length xs
  shorter n [] = omega arith
  shorter n (Empty ∷ xs) = omega (arith, shorter (n + 1) xs)
  shorter n (Filled b ∷ xs) = omega (arith, shorter (n + 1) xs)

  pub len_within : (xs : List (Slot V)) → map.len (map_of xs) ≤ length xs
  len_within xs = omega (arith, map.len-entries (map_of xs), ap length (entries-map_of xs), shorter 0 xs)

  -- ---- a slot that is written

  module _ (xs : List (Slot V)) (k : ℕ) (s : Slot V) (lt : k < length xs) (e : s ≡ get_or xs k s) where
    pub len_filled : (new : Slot V) (v : V) → value_of new ≡ Some v → is_some (value_of s) ≡ false → map.len (map_of (set xs k new)) ≡ map.len (map_of xs) + 1
    len_filled new v is none = ap map.len (filled_slot xs k new v lt is) ∙ len_one_more (map_of xs) k v (get_within xs k s lt e ∙ none_is (value_of s) none)

    pub len_replaced : (new : Slot V) (v : V) → value_of new ≡ Some v → is_some (value_of s) ≡ true → map.len (map_of (set xs k new)) ≡ map.len (map_of xs)
    len_replaced new v is some =
        let w = some_is (value_of s) some in
        ap map.len (filled_slot xs k new v lt is) ∙ len_stays (map_of xs) k v w.0 (get_within xs k s lt e ∙ w.1)

    pub len_emptied : is_some (value_of s) ≡ true → map.len (map_of (set xs k Empty)) + 1 ≡ map.len (map_of xs)
    len_emptied some =
        let w = some_is (value_of s) some in
        ap (λ z. map.len z + 1) (emptied_slot xs k lt) ∙ len_one_less (map_of xs) k w.0 (get_within xs k s lt e ∙ w.1)

    pub len_kept : is_some (value_of s) ≡ false → map.len (map_of (set xs k Empty)) ≡ map.len (map_of xs)
    len_kept none = ap map.len (emptied_slot xs k lt ∙ removed_none (map_of xs) k (get_within xs k s lt e ∙ none_is (value_of s) none))
