-- handles that were bound in another order
use Rattle.std.proofs.Common.{◌≡◌, ◌≢◌, ◌⊎◌, inl, inr, ℕ, ◌<◌, ◌^◌, Bool, true, false, cond, List, [], ◌∷◌, ◌++◌, map, Option, Some, None, refl, sym, ap, ◌∙◌, eq-eqb}
use Rattle.std.specs.Prelude.{◌==◌, if◌then◌else◌}
use Rattle.std.specs.Option.{option_map_or}
use Rattle.std.specs.List.{AllByRecursion}
use Rattle.std.specs.Map.{lookup}
use Rattle.tree_nodes.proofs.Chains.{decide, differ}
use Rattle.tree_handles.specs.Binding.{Bindings, same_bytes, is_bound}
use Rattle.tree_starts.specs.declared.profile.Profile.{Profile}
use Rattle.tree_laws.proofs.Agreeing.{others_dont_matter}
use Rattle.tree_laws.proofs.Judged.{others_dont_matter_under}
use Rattle.file_tree.specs.Setting.{under}
use Rattle.file_tree.specs.Success.{next_tree}
use Rattle.book_laws.specs.Book.{handle_of, bindings_made}
use Rattle.book_laws.specs.Steps.{with_object}
use Rattle.book_laws.proofs.Handles.{pair, is_paired, with_own, without_own, paired_apart}

-- each handle names the same object as by the objects that were made
abbrev pub SameNames : Bindings → List ℕ → Type 0
SameNames binds made = (handle : List ℕ) (object : ℕ) → is_bound binds handle object ≡ is_bound (bindings_made made) handle object

-- so that calls do the same
pub same_next : (binds : Bindings) (made : List ℕ) → SameNames binds made → next_tree binds ≡ next_tree (bindings_made made)
same_next binds made same = λ i. λ tree number call outcome. others_dont_matter binds (bindings_made made) tree number call outcome (λ handle object known. same handle object) i

pub same_under : (profile : Profile) (binds : Bindings) (made : List ℕ) → SameNames binds made → under profile binds ≡ under profile (bindings_made made)
same_under profile binds made same = λ i. λ tree number call outcome. others_dont_matter_under profile binds (bindings_made made) tree number call outcome (λ handle object known. same handle object) i

-- whether what a look-up finds is this object
abbrev is_it : ℕ → Option ℕ → Bool
is_it object found = option_map_or (λ named. named == object) found false

-- pairs, and one more behind them
module _ (handle : List ℕ) (last : List ℕ × ℕ) where
  abbrev own : Option ℕ
  own = cond (same_bytes handle last.0) (Some last.1) None

  behind_none : (pairs : List (List ℕ × ℕ)) → lookup (same_bytes handle) pairs ≡ None → lookup (same_bytes handle) (pairs ++ last ∷ []) ≡ own
  behind_none [] e = refl
  behind_none (p ∷ pairs) e = go (same_bytes handle p.0) e (behind_none pairs) where
    go : (b : Bool) → cond b (Some p.1) (lookup (same_bytes handle) pairs) ≡ None → (lookup (same_bytes handle) pairs ≡ None → lookup (same_bytes handle) (pairs ++ last ∷ []) ≡ own)
        → cond b (Some p.1) (lookup (same_bytes handle) (pairs ++ last ∷ [])) ≡ own
    go true e rest = absurd (cc)
    go false e rest = rest e

  behind_some : (pairs : List (List ℕ × ℕ)) (n : ℕ) → lookup (same_bytes handle) pairs ≡ Some n → lookup (same_bytes handle) (pairs ++ last ∷ []) ≡ Some n
  behind_some [] n e = absurd (cc)
  behind_some (p ∷ pairs) n e = go (same_bytes handle p.0) e (behind_some pairs n) where
    go : (b : Bool) → cond b (Some p.1) (lookup (same_bytes handle) pairs) ≡ Some n → (lookup (same_bytes handle) pairs ≡ Some n → lookup (same_bytes handle) (pairs ++ last ∷ []) ≡ Some n)
        → cond b (Some p.1) (lookup (same_bytes handle) (pairs ++ last ∷ [])) ≡ Some n
    go true e rest = e
    go false e rest = rest e

-- with the pair of one object more, the handles name what they do with that object among those that were made
module _ (binds : Bindings) (made : List ℕ) (number : ℕ) (root : binds.root ≡ handle_of 0) (lt : number < 2 ^ 64) (others : AllByRecursion (λ other. (other ≢ number) × (other < 2 ^ 64)) made)
    (same : SameNames binds made) where
  abbrev pub with_pair : Bindings
  with_pair = record binds { pairs = binds.pairs ++ pair number ∷ [] }

  module _ (handle : List ℕ) (object : ℕ) (isnt_root : same_bytes handle (handle_of 0) ≡ false) where
    abbrev found : Option ℕ
    found = lookup (same_bytes handle) binds.pairs

    -- what is found among the pairs is what the objects that were made say
    found_is : (o : ℕ) → is_it o found ≡ is_paired handle o made
    found_is o =
        sym (ap (λ b. is_it o (if b then Some 0 else found)) (ap (same_bytes handle) root ∙ isnt_root))
        ∙ same handle o ∙ ap (λ b. is_it o (if b then Some 0 else lookup (same_bytes handle) (map pair made))) isnt_root

    -- of the handle itself nothing is found
    nothing_found : same_bytes handle (handle_of number) ≡ true → found ≡ None
    nothing_found is = go found refl where
      go : (o : Option ℕ) → found ≡ o → found ≡ None
      go None e = e
      go (Some n) e = absurd (clash (decide (n == number))) where
        it : is_paired handle n made ≡ true
        it = sym (found_is n) ∙ ap (is_it n) e ∙ eq-eqb n n refl

        clash : ((n == number) ≡ true) ⊎ ((n == number) ≡ false) → ⊥
        clash (inl own) = differ (is_paired handle n made) it (without_own handle number n made lt others is)
        clash (inr other) = differ (is_paired handle n made) it (without_own handle number n made lt others is)

    pushed_at : is_it object (lookup (same_bytes handle) (binds.pairs ++ pair number ∷ [])) ≡ is_paired handle object (with_object number made)
    pushed_at = go (decide (same_bytes handle (handle_of number))) found refl where
      go : (same_bytes handle (handle_of number) ≡ true) ⊎ (same_bytes handle (handle_of number) ≡ false) → (o : Option ℕ) → found ≡ o
          → is_it object (lookup (same_bytes handle) (binds.pairs ++ pair number ∷ [])) ≡ is_paired handle object (with_object number made)
      go (inl is) o e =
          ap (is_it object) (behind_none handle (pair number) binds.pairs (nothing_found is)) ∙ ap (λ b. is_it object (cond b (Some number) None)) is
          ∙ sym (with_own handle number object made lt others is)
      go (inr isnt) None e =
          ap (is_it object) (behind_none handle (pair number) binds.pairs e) ∙ ap (λ b. is_it object (cond b (Some number) None)) isnt
          ∙ sym (ap (is_it object) e) ∙ found_is object ∙ sym (paired_apart handle number object made isnt)
      go (inr isnt) (Some n) e =
          ap (is_it object) (behind_some handle (pair number) binds.pairs n e) ∙ sym (ap (is_it object) e) ∙ found_is object ∙ sym (paired_apart handle number object made isnt)

  pub pushed : SameNames with_pair (with_object number made)
  pushed handle object = go (decide (same_bytes handle (handle_of 0))) where
    named : Bool → List (List ℕ × ℕ) → Bool
    named b pairs = is_it object (if b then Some 0 else lookup (same_bytes handle) pairs)

    by_root : named (same_bytes handle binds.root) (binds.pairs ++ pair number ∷ []) ≡ named (same_bytes handle (handle_of 0)) (binds.pairs ++ pair number ∷ [])
    by_root = ap (λ r. named (same_bytes handle r) (binds.pairs ++ pair number ∷ [])) root

    go : (same_bytes handle (handle_of 0) ≡ true) ⊎ (same_bytes handle (handle_of 0) ≡ false)
        → named (same_bytes handle binds.root) (binds.pairs ++ pair number ∷ []) ≡ named (same_bytes handle (handle_of 0)) (map pair (with_object number made))
    go (inl is) = by_root ∙ ap (λ b. named b (binds.pairs ++ pair number ∷ [])) is ∙ sym (ap (λ b. named b (map pair (with_object number made))) is)
    go (inr isnt) =
        by_root ∙ ap (λ b. named b (binds.pairs ++ pair number ∷ [])) isnt ∙ pushed_at handle object isnt ∙ sym (ap (λ b. named b (map pair (with_object number made))) isnt)
