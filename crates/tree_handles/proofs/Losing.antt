-- tables that lose a handle
use Rattle.std.proofs.Common.{◌≡◌, ◌⊎◌, inl, inr, ℕ, Bool, true, false, cond, List, [], ◌∷◌, Option, Some, None, refl, sym, ap, ◌∙◌, if◌then◌else◌}
use Rattle.std.specs.Prelude.{not}
use Rattle.std.specs.Map.{lookup}
use Rattle.tree_handles.specs.Binding.{same_bytes, pairs_without}
use Rattle.tree_handles.specs.declared.objects.Objects.{Objects}
use Rattle.tree_handles.specs.Finding.{own_object, tabled, found, first_of, GivesFirst, Lacks}
use Rattle.tree_handles.proofs.Positions.{same_is, true_or_false}

-- what pairs without those of a handle say of another one
without-lookup : (handle other : List ℕ) (pairs : List (List ℕ × ℕ)) → lookup (same_bytes other) (pairs_without handle pairs)
    ≡ (if same_bytes other handle then None else lookup (same_bytes other) pairs)
without-lookup handle other [] = go (same_bytes other handle) where
  nothing : Option ℕ
  nothing = None

  go : (b : Bool) → nothing ≡ (if b then nothing else nothing)
  go true = refl
  go false = refl
without-lookup handle other (p ∷ pairs) = go (without-lookup handle other pairs) (true_or_false (same_bytes handle p.0)) (true_or_false (same_bytes other handle)) where
  kept : Bool → Option ℕ
  kept b = lookup (same_bytes other) (cond b (p ∷ pairs_without handle pairs) (pairs_without handle pairs))

  wanted : Bool → Bool → Option ℕ
  wanted same first = if same then None else cond first (Some p.1) (lookup (same_bytes other) pairs)

  go : lookup (same_bytes other) (pairs_without handle pairs) ≡ (if same_bytes other handle then None else lookup (same_bytes other) pairs)
      → (same_bytes handle p.0 ≡ true) ⊎ (same_bytes handle p.0 ≡ false) → (same_bytes other handle ≡ true) ⊎ (same_bytes other handle ≡ false)
      → kept (not (same_bytes handle p.0)) ≡ wanted (same_bytes other handle) (same_bytes other p.0)
  go rest (inl is) (inl same) =
      ap (λ b. kept (not b)) is ∙ rest ∙ ap (λ (b : Bool). if b then None else lookup (same_bytes other) pairs) same
      ∙ sym (ap (λ b. wanted b (same_bytes other p.0)) same)
  go rest (inl is) (inr differs) =
      ap (λ b. kept (not b)) is ∙ rest ∙ ap (λ (b : Bool). if b then None else lookup (same_bytes other) pairs) differs
      ∙ sym (ap (λ b. wanted b (same_bytes other p.0)) differs ∙ ap (wanted false) (ap (same_bytes other) (sym (same_is handle p.0 is)) ∙ differs))
  go rest (inr isnt) (inl same) =
      let other_first : same_bytes other p.0 ≡ false = ap (λ (h : List ℕ). same_bytes h p.0) (same_is other handle same) ∙ isnt in
      ap (λ b. kept (not b)) isnt ∙ ap (λ b. cond b (Some p.1) (lookup (same_bytes other) (pairs_without handle pairs))) other_first
      ∙ rest ∙ ap (λ (b : Bool). if b then None else lookup (same_bytes other) pairs) same
      ∙ sym (ap (λ b. wanted b (same_bytes other p.0)) same)
  go rest (inr isnt) (inr differs) =
      ap (λ b. kept (not b)) isnt
      ∙ ap (cond (same_bytes other p.0) (Some p.1)) (rest ∙ ap (λ (b : Bool). if b then None else lookup (same_bytes other) pairs) differs)
      ∙ sym (ap (λ b. wanted b (same_bytes other p.0)) differs)

-- both have lost it
pub both_lack : (before after : Objects) (pairs : List (List ℕ × ℕ)) (handle : List ℕ) → GivesFirst before pairs
    → Lacks (own_object before.own) (own_object after.own) handle → Lacks (tabled before.others) (tabled after.others) handle → GivesFirst after (pairs_without handle pairs)
both_lack before after pairs handle gives own others other =
    ap (λ o. first_of o (tabled after.others other)) (own other) ∙ ap (first_of (if same_bytes other handle then None else own_object before.own other)) (others other)
    ∙ go (same_bytes other handle) ∙ ap (λ (o : Option ℕ). if same_bytes other handle then None else o) (gives other) ∙ sym (without-lookup handle other pairs) where
      go : (b : Bool) → first_of (if b then None else own_object before.own other) (if b then None else tabled before.others other) ≡ (if b then None else found before other)
      go true = refl
      go false = refl
