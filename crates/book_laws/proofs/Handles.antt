-- what the handles of a book name, with one object more
use Rattle.std.proofs.Common.{◌≡◌, ◌≢◌, ◌⊎◌, inl, inr, ℕ, ◌<◌, ◌^◌, Bool, true, false, cond, List, [], ◌∷◌, map, Option, Some, None, refl, sym, ap, ◌∙◌}
use Rattle.std.specs.Prelude.{IsSome, ◌==◌, nat_lt, if◌then◌else◌}
use Rattle.std.specs.Option.{option_map_or}
use Rattle.std.specs.List.{AllByRecursion}
use Rattle.std.specs.Map.{lookup}
use Rattle.std.proofs.lemmas.Bool.{eqb-true}
use Rattle.xdr_records.specs.Items.{long_of}
use Rattle.xdr_records.proofs.Written.{long_spelled}
use Rattle.tree_nodes.specs.Tree.{Tree, entry_of}
use Rattle.tree_nodes.proofs.Chains.{decide, isnt}
use Rattle.tree_handles.specs.Binding.{same_bytes, is_bound}
use Rattle.tree_handles.proofs.Positions.{same_is}
use Rattle.tree_laws.specs.Agreeing.{AgreeOn}
use Rattle.book_laws.specs.Book.{handle_of, bindings_made}
use Rattle.book_laws.specs.Steps.{with_object}

-- numbers of eight bytes have handles of their own
same_handle : (n m : ℕ) → n < 2 ^ 64 → m < 2 ^ 64 → handle_of n ≡ handle_of m → n ≡ m
same_handle n m lt lt' same = sym (long_spelled n lt).value ∙ ap long_of same ∙ (long_spelled m lt').value

abbrev pub pair : ℕ → List ℕ × ℕ
pair object = (handle_of object, object)

-- whether a handle's pair is one of this object
abbrev pub is_paired : List ℕ → ℕ → List ℕ → Bool
is_paired handle object made = option_map_or (λ named. named == object) (lookup (same_bytes handle) (map pair made)) false

unequal : (n m : ℕ) → n ≢ m → (n == m) ≡ false
unequal n m apart = isnt (n == m) (λ e. apart (eqb-true n m e))

module _ (handle : List ℕ) (number object : ℕ) (apart : number ≢ object) where
  -- a handle of the new object is no handle of another one
  abbrev IsOwn : ℕ → Type 0
  IsOwn other = same_bytes handle (handle_of number) ≡ true → same_bytes handle (handle_of other) ≡ false

  none_paired : (made : List ℕ) → AllByRecursion IsOwn made → same_bytes handle (handle_of number) ≡ true → is_paired handle object made ≡ false
  none_paired [] own is = refl
  none_paired (first ∷ made) own is =
      ap (λ b. option_map_or (λ named. named == object) (cond b (Some first) (lookup (same_bytes handle) (map pair made))) false) (own.0 is) ∙ none_paired made own.1 is

  ahead : (made : List ℕ) → AllByRecursion IsOwn made → is_paired handle object (number ∷ made) ≡ is_paired handle object made
  ahead made own = go (decide (same_bytes handle (handle_of number))) where
    go : (same_bytes handle (handle_of number) ≡ true) ⊎ (same_bytes handle (handle_of number) ≡ false) → is_paired handle object (number ∷ made) ≡ is_paired handle object made
    go (inl is) =
        ap (λ b. option_map_or (λ named. named == object) (cond b (Some number) (lookup (same_bytes handle) (map pair made))) false) is
        ∙ unequal number object apart ∙ sym (none_paired made own is)
    go (inr other) = ap (λ b. option_map_or (λ named. named == object) (cond b (Some number) (lookup (same_bytes handle) (map pair made))) false) other

  paired_same : (made : List ℕ) → AllByRecursion IsOwn made → is_paired handle object (with_object number made) ≡ is_paired handle object made
  paired_same [] own = ahead [] own
  paired_same (first ∷ made) own = go (nat_lt number first) (paired_same made own.1) where
    go : (b : Bool) → is_paired handle object (with_object number made) ≡ is_paired handle object made
        → is_paired handle object (if b then number ∷ first ∷ made else first ∷ with_object number made) ≡ is_paired handle object (first ∷ made)
    go true rest = ahead (first ∷ made) own
    go false rest = front (same_bytes handle (handle_of first)) rest where
      front : (c : Bool) → is_paired handle object (with_object number made) ≡ is_paired handle object made
          → option_map_or (λ named. named == object) (cond c (Some first) (lookup (same_bytes handle) (map pair (with_object number made)))) false
          ≡ option_map_or (λ named. named == object) (cond c (Some first) (lookup (same_bytes handle) (map pair made))) false
      front true rest = refl
      front false rest = rest

own_all : (handle : List ℕ) (number object : ℕ) (apart : number ≢ object) → number < 2 ^ 64 → (made : List ℕ) → AllByRecursion (λ other. (other ≢ number) × (other < 2 ^ 64)) made
    → AllByRecursion (IsOwn handle number object apart) made
own_all handle number object apart lt [] others = tt
own_all handle number object apart lt (first ∷ made) others = (own, own_all handle number object apart lt made others.1) where
  own : same_bytes handle (handle_of number) ≡ true → same_bytes handle (handle_of first) ≡ false
  own is = isnt (same_bytes handle (handle_of first)) (λ same. others.0.0 (same_handle first number others.0.1 lt (sym (same_is handle (handle_of first) same) ∙ same_is handle (handle_of number) is)))

-- the handle of the new object is that of no object which was made
pub without_own : (handle : List ℕ) (number object : ℕ) (made : List ℕ) → number < 2 ^ 64 → AllByRecursion (λ other. (other ≢ number) × (other < 2 ^ 64)) made
    → same_bytes handle (handle_of number) ≡ true → is_paired handle object made ≡ false
without_own handle number object [] lt others is = refl
without_own handle number object (first ∷ made) lt others is =
    ap (λ b. option_map_or (λ named. named == object) (cond b (Some first) (lookup (same_bytes handle) (map pair made))) false) apart ∙ without_own handle number object made lt others.1 is where
      apart : same_bytes handle (handle_of first) ≡ false
      apart = isnt (same_bytes handle (handle_of first)) (λ same. others.0.0 (same_handle first number others.0.1 lt (sym (same_is handle (handle_of first) same) ∙ same_is handle (handle_of number) is)))

-- with the new object it names that one
pub with_own : (handle : List ℕ) (number object : ℕ) (made : List ℕ) → number < 2 ^ 64 → AllByRecursion (λ other. (other ≢ number) × (other < 2 ^ 64)) made
    → same_bytes handle (handle_of number) ≡ true → is_paired handle object (with_object number made) ≡ (number == object)
with_own handle number object [] lt others is = ap (λ b. option_map_or (λ named. named == object) (cond b (Some number) None) false) is
with_own handle number object (first ∷ made) lt others is = go (nat_lt number first) (with_own handle number object made lt others.1 is) where
  apart : same_bytes handle (handle_of first) ≡ false
  apart = isnt (same_bytes handle (handle_of first)) (λ same. others.0.0 (same_handle first number others.0.1 lt (sym (same_is handle (handle_of first) same) ∙ same_is handle (handle_of number) is)))

  go : (b : Bool) → is_paired handle object (with_object number made) ≡ (number == object) → is_paired handle object (if b then number ∷ first ∷ made else first ∷ with_object number made) ≡ (number == object)
  go true rest = ap (λ b. option_map_or (λ named. named == object) (cond b (Some number) (lookup (same_bytes handle) (map pair (first ∷ made)))) false) is
  go false rest = ap (λ b. option_map_or (λ named. named == object) (cond b (Some first) (lookup (same_bytes handle) (map pair (with_object number made)))) false) apart ∙ rest

-- another handle names what it did
pub paired_apart : (handle : List ℕ) (number object : ℕ) (made : List ℕ) → same_bytes handle (handle_of number) ≡ false → is_paired handle object (with_object number made) ≡ is_paired handle object made
paired_apart handle number object [] other = ap (λ b. option_map_or (λ named. named == object) (cond b (Some number) None) false) other
paired_apart handle number object (first ∷ made) other = go (nat_lt number first) (paired_apart handle number object made other) where
  go : (b : Bool) → is_paired handle object (with_object number made) ≡ is_paired handle object made
      → is_paired handle object (if b then number ∷ first ∷ made else first ∷ with_object number made) ≡ is_paired handle object (first ∷ made)
  go true rest = ap (λ b. option_map_or (λ named. named == object) (cond b (Some number) (lookup (same_bytes handle) (map pair (first ∷ made)))) false) other
  go false rest = front (same_bytes handle (handle_of first)) rest where
    front : (c : Bool) → is_paired handle object (with_object number made) ≡ is_paired handle object made
        → option_map_or (λ named. named == object) (cond c (Some first) (lookup (same_bytes handle) (map pair (with_object number made)))) false
        ≡ option_map_or (λ named. named == object) (cond c (Some first) (lookup (same_bytes handle) (map pair made))) false
    front true rest = refl
    front false rest = rest

-- the other objects keep their handles
pub bound_same : (number : ℕ) (made : List ℕ) → number < 2 ^ 64 → AllByRecursion (λ other. (other ≢ number) × (other < 2 ^ 64)) made → (handle : List ℕ) (object : ℕ) → object ≢ number
    → is_bound (bindings_made made) handle object ≡ is_bound (bindings_made (with_object number made)) handle object
bound_same number made lt others handle object apart =
    let other : number ≢ object = λ e. apart (sym e) in
    go (same_bytes handle (handle_of 0)) (paired_same handle number object other made (own_all handle number object other lt made others)) where
      go : (b : Bool) → is_paired handle object (with_object number made) ≡ is_paired handle object made
          → option_map_or (λ named. named == object) (if b then Some 0 else lookup (same_bytes handle) (map pair made)) false
          ≡ option_map_or (λ named. named == object) (if b then Some 0 else lookup (same_bytes handle) (map pair (with_object number made))) false
      go true same = refl
      go false same = sym same

-- so that bindings with one object more agree with those before, for calls and trees that don't know it
pub agree_but : (number : ℕ) (made : List ℕ) → number < 2 ^ 64 → AllByRecursion (λ other. (other ≢ number) × (other < 2 ^ 64)) made → (tree : Tree) (n : ℕ) → n ≢ number → entry_of tree number ≡ None
    → AgreeOn (bindings_made made) (bindings_made (with_object number made)) tree n
agree_but number made lt others tree n apart absent handle object (inl stands) = bound_same number made lt others handle object (λ same. gone (ap (entry_of tree) same ∙ absent) stands) where
  gone : {X : Type 0} {o : Option X} → o ≡ None → IsSome o → ⊥
  gone e s = cc
agree_but number made lt others tree n apart absent handle object (inr own) = bound_same number made lt others handle object (λ same. apart (sym own ∙ same))
