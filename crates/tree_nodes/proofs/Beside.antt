-- how numbers, names and paths lie beside one another
use Rattle.std.proofs.Common.{◌≡◌, ℕ, ◌==◌, ◌⊎◌, inl, inr, true, false, List, [], ◌∷◌, ◌++◌, length, drop, sym, ap, ◌∙◌, arith, eq-eqb, length-append, append_assoc, append-nil}
use Rattle.std.specs.Prelude.{nat_eq}
use Rattle.std.specs.Cmp.Lexicographic.{pointwise}
use Rattle.std.proofs.lemmas.Bool.{eqb-true}
use Rattle.std.proofs.lemmas.Cmp.{nat_list_eq_equiv}
use Rattle.tree_nodes.specs.Tree.{Names}
use Rattle.tree_nodes.specs.Moved.{is_from}
use Rattle.tree_nodes.specs.Moves.{IsOutside}
use Rattle.tree_nodes.proofs.Chains.{decide, differ}
use Rattle.tree_nodes.proofs.Found.{pointwise_same, parts_of, from_front}

pub same_number : (a b : ℕ) → (a ≡ b) ⊎ (a ≡ b → ⊥)
same_number a b = go (decide (a == b)) where
  go : ((a == b) ≡ true) ⊎ ((a == b) ≡ false) → (a ≡ b) ⊎ (a ≡ b → ⊥)
  go (inl e) = inl (eqb-true a b e)
  go (inr e) = inr (λ same. differ (a == b) (eq-eqb a b same) e)

pub same_name : (x y : List ℕ) → (x ≡ y) ⊎ (x ≡ y → ⊥)
same_name x y = go (decide (pointwise nat_eq x y)) where
  go : (pointwise nat_eq x y ≡ true) ⊎ (pointwise nat_eq x y ≡ false) → (x ≡ y) ⊎ (x ≡ y → ⊥)
  go (inl e) = inl (pointwise_same nat_eq eqb-true x y e)
  go (inr e) = inr (λ same. differ (pointwise nat_eq x y) (ap (pointwise nat_eq x) (sym same) ∙ nat_list_eq_equiv.refl x) e)

-- the same name in the same directory
pub same_place : (a o : ℕ) (y x : List ℕ) → ((a ≡ o) × (y ≡ x)) ⊎ (a ≡ o → y ≡ x → ⊥)
same_place a o y x = go (same_number a o) (same_name y x) where
  go : (a ≡ o) ⊎ (a ≡ o → ⊥) → (y ≡ x) ⊎ (y ≡ x → ⊥) → ((a ≡ o) × (y ≡ x)) ⊎ (a ≡ o → y ≡ x → ⊥)
  go (inl e) (inl f) = inl (e, f)
  go (inl e) (inr f) = inr (λ _ s. f s)
  go (inr e) f = inr (λ s _. e s)

pub no_longer : (q : Names) (n : List ℕ) (r : Names) → q ++ n ∷ r ≡ q → ⊥
no_longer q n r e = omega (arith, ap length e, length-append q (n ∷ r))

-- a directory's path isn't from its entry's on
pub directory_outside : (p : Names) (x : List ℕ) → IsOutside (p ++ x ∷ []) p
directory_outside p x below e = no_longer p x below (sym (e ∙ append_assoc p (x ∷ []) below))

-- a path is another one, lies below it, or lies outside it
pub beside : (path q : Names) → (path ≡ q) ⊎ (((n : List ℕ) × (r : Names) × (path ≡ q ++ n ∷ r)) ⊎ IsOutside q path)
beside path q = go (decide (is_from path q)) where
  at : (rest : Names) → path ≡ q ++ rest → (path ≡ q) ⊎ (((n : List ℕ) × (r : Names) × (path ≡ q ++ n ∷ r)) ⊎ IsOutside q path)
  at [] e = inl (e ∙ append-nil q)
  at (n ∷ r) e = inr (inl (n, r, e))

  go : (is_from path q ≡ true) ⊎ (is_from path q ≡ false) → (path ≡ q) ⊎ (((n : List ℕ) × (r : Names) × (path ≡ q ++ n ∷ r)) ⊎ IsOutside q path)
  go (inl e) = at (drop (length q) path) (parts_of path q e)
  go (inr e) = inr (inr (λ below is. differ (is_from path q) (ap (λ (z : Names). is_from z q) is ∙ from_front q below) e))

-- the same, with what lies from it on in one case
pub from_or_outside : (path q : Names) → ((r : Names) × (path ≡ q ++ r)) ⊎ IsOutside q path
from_or_outside path q = go (beside path q) where
  go : (path ≡ q) ⊎ (((n : List ℕ) × (r : Names) × (path ≡ q ++ n ∷ r)) ⊎ IsOutside q path) → ((r : Names) × (path ≡ q ++ r)) ⊎ IsOutside q path
  go (inl e) = inl ([], e ∙ sym (append-nil q))
  go (inr (inl b)) = inl (b.0 ∷ b.1, b.2)
  go (inr (inr o)) = inr o
