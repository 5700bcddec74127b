-- calls behind which the records never fall, and the first behind which there are enough
use Rattle.std.proofs.Common.{◌≡◌, ℕ, zero, suc, ◌+◌, ◌<◌, ◌≤◌, Bool, true, false, cond, not, ltb, List, [], ◌∷◌, length, get_or, Some, None, refl, sym, ap, ◌∙◌, arith}
use Rattle.std.specs.Prelude.{nat_le, nat_lt, position}
use Rattle.std.specs.List.{prefix_len}
use Rattle.std.specs.List.Sorted.{IsNonDecreasingBy, IsPartitionPoint}
use Rattle.std.proofs.lemmas.Bool.{leb-true, leb-false, ltb-true, ltb-false, lt-ltb}
use Rattle.nfs_history.specs.declared.recorded.RecordedCall.{RecordedCall}
use Rattle.book_laws.specs.Placing.{records_in}
use Rattle.book_ledger.specs.declared.placed.PlacedCall.{PlacedCall}
use Rattle.book_ledger.specs.Inside.{AreCounted, placed_in}

-- ---- the records never fall

up : (a n r : ℕ) → r ≡ a + n → a ≤ r
up a n r e = omega (arith, e)

through : (a b c : ℕ) → a ≤ b → b ≤ c → a ≤ c
through a b c le l = omega (arith, le, l)

module _ (recorded : List RecordedCall) where
  more : (a : ℕ) (x : PlacedCall) (rest : List PlacedCall) → AreCounted a recorded (x ∷ rest) → a ≤ x.records
  more a x rest c = up a (records_in (placed_in recorded x ∷ [])) x.records c.0

  above : (a : ℕ) (xs : List PlacedCall) → AreCounted a recorded xs → (j : ℕ) (d : PlacedCall) → j < length xs → a ≤ (get_or xs j d).records
  above a [] c j d lt = absurd (omega (arith, lt))
  above a (x ∷ xs) c zero d lt = more a x xs c
  above a (x ∷ xs) c (suc j) d lt = through a x.records (get_or xs j d).records (more a x xs c) (above x.records xs c.1 j d (omega (arith, lt)))

  pub rising : (a : ℕ) (xs : List PlacedCall) → AreCounted a recorded xs → IsNonDecreasingBy (λ (p : PlacedCall). p.records) xs
  rising a [] c i j d le lt = absurd (omega (arith, lt))
  rising a (x ∷ xs) c zero zero d le lt = omega arith
  rising a (x ∷ xs) c zero (suc j) d le lt = above x.records xs c.1 j d (omega (arith, lt))
  rising a (x ∷ xs) c (suc i) zero d le lt = absurd (omega (arith, le))
  rising a (x ∷ xs) c (suc i) (suc j) d le lt = rising x.records xs c.1 i j d (omega (arith, le)) (omega (arith, lt))

-- ---- the first behind which there are enough

front_is : {X : Type 0} (q : X → Bool) (xs : List X) (i : ℕ) → i ≤ length xs → ((k : ℕ) (d : X) → k < i → q (get_or xs k d) ≡ true) → ((k : ℕ) (d : X) → i ≤ k → k < length xs → q (get_or xs k d) ≡ false)
    → prefix_len q xs ≡ i
front_is q [] i le passes fails = omega (arith, le)
front_is q (x ∷ xs) zero le passes fails = ap (λ b. cond b (1 + prefix_len q xs) 0) (fails 0 x (omega arith) (omega arith))
front_is q (x ∷ xs) (suc i) le passes fails =
    let rest = front_is q xs i (omega (arith, le)) (λ k d lt. passes (suc k) d (omega (arith, lt))) (λ k d l lt. fails (suc k) d (omega (arith, l)) (omega (arith, lt))) in
    ap (λ b. cond b (1 + prefix_len q xs) 0) (passes 0 x (omega arith)) ∙ one_more (prefix_len q xs) i rest where
      one_more : (m n : ℕ) → m ≡ n → 1 + m ≡ suc n
      one_more m n e = omega (arith, e)

fewer : (keep records : ℕ) → ltb records keep ≡ true → not (nat_le keep records) ≡ true
fewer keep records e = go (nat_le keep records) refl where
  go : (b : Bool) → nat_le keep records ≡ b → not b ≡ true
  go true f = absurd (omega (arith, leb-true keep records f, ltb-true records keep e))
  go false f = refl

enough : (keep records : ℕ) → ltb records keep ≡ false → not (nat_le keep records) ≡ false
enough keep records e = go (nat_le keep records) refl where
  go : (b : Bool) → nat_le keep records ≡ b → not b ≡ false
  go true f = refl
  go false f = absurd (omega (arith, leb-false keep records f, ltb-false records keep e))

module _ (keep : ℕ) (xs : List PlacedCall) (i : ℕ) (le : i ≤ length xs) (point : IsPartitionPoint (λ (p : PlacedCall). ltb p.records keep ≡ true) (λ (p : PlacedCall). ltb p.records keep ≡ false) xs i) where
  place_is : prefix_len (λ (p : PlacedCall). not (nat_le keep p.records)) xs ≡ i
  place_is =
      front_is (λ (p : PlacedCall). not (nat_le keep p.records)) xs i le (λ k d lt. fewer keep (get_or xs k d).records (point.0 k d (omega arith) lt))
      (λ k d l lt. enough keep (get_or xs k d).records (point.1 k d l lt))

  pub found : i < length xs → Some i ≡ position (λ (p : PlacedCall). nat_le keep p.records) xs
  found lt = sym (ap (λ n. cond (nat_lt n (length xs)) (Some n) None) place_is ∙ ap (λ b. cond b (Some i) None) (lt-ltb i (length xs) lt))

  pub none : length xs ≤ i → None ≡ position (λ (p : PlacedCall). nat_le keep p.records) xs
  none ge = sym (ap (λ n. cond (nat_lt n (length xs)) (Some n) None) place_is ∙ go (nat_lt i (length xs)) refl) where
    go : (b : Bool) → nat_lt i (length xs) ≡ b → cond b (Some i) None ≡ None
    go true f = absurd (omega (arith, ltb-true i (length xs) f, ge))
    go false f = refl
