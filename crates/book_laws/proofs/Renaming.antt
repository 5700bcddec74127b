-- two lists of objects name the same of those that are in both
use Rattle.std.proofs.Common.{◌≡◌, ◌⊎◌, inl, inr, ℕ, ◌<◌, ◌^◌, Bool, true, false, List, [], ◌∷◌, refl, sym, ap, ◌∙◌, subst, eq-eqb}
use Rattle.std.specs.Prelude.{◌==◌}
use Rattle.std.specs.List.{AllByRecursion}
use Rattle.std.proofs.lemmas.Bool.{eqb-true}
use Rattle.xdr_records.specs.Items.{long_of}
use Rattle.xdr_records.proofs.Written.{long_spelled}
use Rattle.tree_nodes.proofs.Chains.{decide, differ}
use Rattle.tree_handles.specs.Binding.{same_bytes, is_bound}
use Rattle.tree_handles.proofs.Positions.{same_is}
use Rattle.journal.specs.Rebuilding.{handle_of, bindings_made}
use Rattle.journal.proofs.Numbers.{Among, is_paired, seen, paired_own, found}

abbrev pub AreSmall : List ℕ → Type 0
AreSmall numbers = AllByRecursion (λ n. n < 2 ^ 64) numbers

small_among : (numbers : List ℕ) (object : ℕ) → AreSmall numbers → Among numbers object → object < 2 ^ 64
small_among [] object small among = absurd among
small_among (first ∷ numbers) object small (inl same) = subst (λ (n : ℕ). n < 2 ^ 64) same small.0
small_among (first ∷ numbers) object small (inr among) = small_among numbers object small.1 among

same_handle : (n m : ℕ) → n < 2 ^ 64 → m < 2 ^ 64 → handle_of n ≡ handle_of m → n ≡ m
same_handle n m lt lt' same = sym (long_spelled n lt).value ∙ ap long_of same ∙ (long_spelled m lt').value

-- the handle of one of the numbers is that of its pair
paired_has : (handle : List ℕ) (object : ℕ) (numbers : List ℕ) → AreSmall numbers → object < 2 ^ 64 → Among numbers object → same_bytes handle (handle_of object) ≡ true → is_paired handle object numbers ≡ true
paired_has handle object [] small lt among own = absurd among
paired_has handle object (first ∷ numbers) small lt among own = go (decide (same_bytes handle (handle_of first))) among (λ a. paired_has handle object numbers small.1 lt a own) where
  go : (same_bytes handle (handle_of first) ≡ true) ⊎ (same_bytes handle (handle_of first) ≡ false) → Among (first ∷ numbers) object → (Among numbers object → is_paired handle object numbers ≡ true)
      → is_paired handle object (first ∷ numbers) ≡ true
  go (inl is) a later =
      let same : first ≡ object = same_handle first object small.0 lt (sym (same_is handle (handle_of first) is) ∙ same_is handle (handle_of object) own) in
      ap (seen handle object first numbers) is ∙ eq-eqb first object same
  go (inr other) (inl same) later = absurd (differ (same_bytes handle (handle_of first)) (subst (λ (n : ℕ). same_bytes handle (handle_of n) ≡ true) (sym same) own) other)
  go (inr other) (inr a) later = ap (seen handle object first numbers) other ∙ later a

-- a number whose pair is found is one of them
paired_among : (handle : List ℕ) (object : ℕ) (numbers : List ℕ) → is_paired handle object numbers ≡ true → Among numbers object
paired_among handle object [] e = absurd (cc)
paired_among handle object (first ∷ numbers) e = go (decide (same_bytes handle (handle_of first))) (λ f. paired_among handle object numbers f) where
  go : (same_bytes handle (handle_of first) ≡ true) ⊎ (same_bytes handle (handle_of first) ≡ false) → (is_paired handle object numbers ≡ true → Among numbers object) → Among (first ∷ numbers) object
  go (inl is) later =
      let same : (first == object) ≡ true = sym (ap (seen handle object first numbers) is) ∙ e in
      inl (eqb-true first object same)
  go (inr other) later = inr (later (sym (ap (seen handle object first numbers) other) ∙ e))

same_bool : (a b : Bool) → (a ≡ true → b ≡ true) → (b ≡ true → a ≡ true) → a ≡ b
same_bool true b f g = sym (f refl)
same_bool false true f g = g refl
same_bool false false f g = refl

-- the root, or in both or in none
abbrev pub AreAlike : List ℕ → List ℕ → ℕ → Type 0
AreAlike xs ys object = (object ≡ 0) ⊎ ((Among xs object → Among ys object) × (Among ys object → Among xs object))

pub alike_bound : (xs ys : List ℕ) → AreSmall xs → AreSmall ys → (handle : List ℕ) (object : ℕ) → AreAlike xs ys object
    → is_bound (bindings_made xs) handle object ≡ is_bound (bindings_made ys) handle object
alike_bound xs ys small small' handle object alike = go (decide (same_bytes handle (handle_of 0))) where
  across : same_bytes handle (handle_of 0) ≡ false → AreAlike xs ys object → is_paired handle object xs ≡ is_paired handle object ys
  across other (inl root) = same_bool _ _ (λ e. absurd (clash (paired_own handle object xs e))) (λ e. absurd (clash (paired_own handle object ys e))) where
    clash : same_bytes handle (handle_of object) ≡ true → ⊥
    clash own = differ (same_bytes handle (handle_of 0)) (subst (λ (n : ℕ). same_bytes handle (handle_of n) ≡ true) root own) other
  across other (inr both) =
      same_bool _ _ (λ e. (let a = paired_among handle object xs e in paired_has handle object ys small' (small_among xs object small a) (both.0 a) (paired_own handle object xs e)))
      (λ e. (let a = paired_among handle object ys e in paired_has handle object xs small (small_among ys object small' a) (both.1 a) (paired_own handle object ys e)))

  go : (same_bytes handle (handle_of 0) ≡ true) ⊎ (same_bytes handle (handle_of 0) ≡ false) → is_bound (bindings_made xs) handle object ≡ is_bound (bindings_made ys) handle object
  go (inl is) = ap (found handle object xs) is ∙ sym (ap (found handle object ys) is)
  go (inr other) = ap (found handle object xs) other ∙ across other alike ∙ sym (ap (found handle object ys) other)
