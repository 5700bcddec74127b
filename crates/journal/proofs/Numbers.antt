-- what the handles of some numbers name, with more numbers behind them
use Rattle.std.proofs.Common.{◌≡◌, ◌⊎◌, inl, inr, ℕ, Bool, true, false, cond, List, [], ◌∷◌, ◌++◌, map, Option, Some, refl, sym, ap, ◌∙◌, subst}
use Rattle.std.specs.Prelude.{◌==◌}
use Rattle.std.specs.Option.{option_map_or}
use Rattle.std.specs.Map.{lookup}
use Rattle.std.proofs.lemmas.Bool.{eqb-true}
use Rattle.tree_nodes.proofs.Chains.{decide, differ, isnt}
use Rattle.tree_handles.specs.Binding.{same_bytes, is_bound}
use Rattle.journal.specs.Rebuilding.{handle_of, bindings_made}

-- one of these numbers
abbrev pub Among : List ℕ → ℕ → Type 0
Among [] object = ⊥
Among (first ∷ numbers) object = (first ≡ object) ⊎ Among numbers object

pub among_more : (numbers more : List ℕ) (object : ℕ) → Among numbers object → Among (numbers ++ more) object
among_more [] more object among = absurd among
among_more (first ∷ numbers) more object (inl same) = inl same
among_more (first ∷ numbers) more object (inr among) = inr (among_more numbers more object among)

pub among_last : (numbers : List ℕ) (object : ℕ) → Among (numbers ++ object ∷ []) object
among_last [] object = inl refl
among_last (first ∷ numbers) object = inr (among_last numbers object)

abbrev pub pair : ℕ → List ℕ × ℕ
pair object = (handle_of object, object)

-- what was looked up is this object
abbrev pub is_it : ℕ → Option ℕ → Bool
is_it object o = option_map_or (λ named. named == object) o false

-- whether a handle's pair is one of this object
abbrev pub is_paired : List ℕ → ℕ → List ℕ → Bool
is_paired handle object numbers = is_it object (lookup (same_bytes handle) (map pair numbers))

-- the same with a first number, by whether the handle is that number's
abbrev pub seen : List ℕ → ℕ → ℕ → List ℕ → Bool → Bool
seen handle object first numbers b = is_it object (cond b (Some first) (lookup (same_bytes handle) (map pair numbers)))

module _ (handle : List ℕ) (object : ℕ) where
  -- a handle whose pair is one of the object is the object's own
  pub paired_own : (numbers : List ℕ) → is_paired handle object numbers ≡ true → same_bytes handle (handle_of object) ≡ true
  paired_own [] e = absurd (cc)
  paired_own (first ∷ numbers) e = go (decide (same_bytes handle (handle_of first))) (λ f. paired_own numbers f) where
    go : (same_bytes handle (handle_of first) ≡ true) ⊎ (same_bytes handle (handle_of first) ≡ false) → (is_paired handle object numbers ≡ true → same_bytes handle (handle_of object) ≡ true)
        → same_bytes handle (handle_of object) ≡ true
    go (inl is) later =
        let same : (first == object) ≡ true = sym (ap (seen handle object first numbers) is) ∙ e in
        subst (λ (n : ℕ). same_bytes handle (handle_of n) ≡ true) (eqb-true first object same) is
    go (inr other) later = later (sym (ap (seen handle object first numbers) other) ∙ e)

  -- what stands behind a front in which it is makes no difference
  pub behind_front : (front rest : List ℕ) → (same_bytes handle (handle_of object) ≡ true → Among front object) → is_paired handle object (front ++ rest) ≡ is_paired handle object front
  behind_front [] rest among = isnt (is_paired handle object rest) (λ e. among (paired_own rest e))
  behind_front (first ∷ front) rest among = go (decide (same_bytes handle (handle_of first))) (λ known. behind_front front rest known) where
    further : same_bytes handle (handle_of first) ≡ false → same_bytes handle (handle_of object) ≡ true → Among (first ∷ front) object → Among front object
    further other own (inl same) = absurd (differ (same_bytes handle (handle_of first)) (subst (λ (n : ℕ). same_bytes handle (handle_of n) ≡ true) (sym same) own) other)
    further other own (inr among) = among

    go : (same_bytes handle (handle_of first) ≡ true) ⊎ (same_bytes handle (handle_of first) ≡ false)
        → ((same_bytes handle (handle_of object) ≡ true → Among front object) → is_paired handle object (front ++ rest) ≡ is_paired handle object front)
        → is_paired handle object (first ∷ front ++ rest) ≡ is_paired handle object (first ∷ front)
    go (inl is) later = ap (seen handle object first (front ++ rest)) is ∙ sym (ap (seen handle object first front) is)
    go (inr other) later = ap (seen handle object first (front ++ rest)) other ∙ later (λ own. further other own (among own)) ∙ sym (ap (seen handle object first front) other)

-- what the handles name of a bound object
abbrev pub found : List ℕ → ℕ → List ℕ → Bool → Bool
found handle object numbers b = is_it object (cond b (Some 0) (lookup (same_bytes handle) (map pair numbers)))

-- the objects of the front keep their handles, and the root
pub bound_front : (front rest : List ℕ) (handle : List ℕ) (object : ℕ) → (object ≡ 0) ⊎ Among front object
    → is_bound (bindings_made (front ++ rest)) handle object ≡ is_bound (bindings_made front) handle object
bound_front front rest handle object known = go (decide (same_bytes handle (handle_of 0))) where
  there : same_bytes handle (handle_of 0) ≡ false → same_bytes handle (handle_of object) ≡ true → (object ≡ 0) ⊎ Among front object → Among front object
  there other own (inl root) = absurd (differ (same_bytes handle (handle_of 0)) (subst (λ (n : ℕ). same_bytes handle (handle_of n) ≡ true) root own) other)
  there other own (inr among) = among

  go : (same_bytes handle (handle_of 0) ≡ true) ⊎ (same_bytes handle (handle_of 0) ≡ false) → is_bound (bindings_made (front ++ rest)) handle object ≡ is_bound (bindings_made front) handle object
  go (inl is) = ap (found handle object (front ++ rest)) is ∙ sym (ap (found handle object front) is)
  go (inr other) = ap (found handle object (front ++ rest)) other ∙ behind_front handle object front rest (λ own. there other own known) ∙ sym (ap (found handle object front) other)
