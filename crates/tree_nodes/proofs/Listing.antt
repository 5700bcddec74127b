-- a walk over the names in a directory
use Rattle.std.proofs.Common.{◌≡◌, ℕ, ◌⊎◌, inl, inr, true, false, cond, T, List, [], ◌∷◌, Some, None, refl, sym, ap, ◌∙◌}
use Rattle.std.specs.Ordering.{nat_cmp, is_eq}
use Rattle.std.specs.Cmp.Lexicographic.{slice_cmp}
use Rattle.std.specs.FinMap as map
use Rattle.std.specs.FinMap.Entries as es
use Rattle.std.specs.BTreeSet.{BTreeSet, contains}
use Rattle.std.proofs.lemmas.Cmp.{tied_itself, nat_list_cmp_total}
use Rattle.tree_stores.specs.Names.{Objects, name_cmp}
use Rattle.tree_stores.proofs.Orders.{first, second, less}
use Rattle.tree_nodes.proofs.Chains.{decide}
use Rattle.tree_nodes.proofs.Tables.{tie}

-- these names are left of all; each that has gone by is among the names
pub record Left (names : BTreeSet (List ℕ)) (all : Objects) (left : List (List ℕ × ℕ)) : Type 0 where
  pub sorted : T (es.is_sorted name_cmp left)
  pub found : (x : List ℕ) (k : ℕ) → es.find name_cmp x left ≡ Some k → map.get all x ≡ Some k
  pub passed : (x : List ℕ) (k : ℕ) → map.get all x ≡ Some k → (contains (slice_cmp nat_cmp) names x ≡ true) ⊎ (es.find name_cmp x left ≡ Some k)

pub left_all : (names : BTreeSet (List ℕ)) (all : Objects) → Left names all (map.entries all)
left_all names all = record { sorted = map.entries_sorted all; found = λ x k e. map.get-entries all x ∙ e; passed = λ x k e. inr (sym (map.get-entries all x) ∙ e) }

none_below : (x : List ℕ) (rest : List (List ℕ × ℕ)) → T (es.below_all name_cmp x rest) → es.find name_cmp x rest ≡ None
none_below x [] below = refl
none_below x (e ∷ rest) below = ap (λ o. cond (is_eq o) (Some e.1) (es.find name_cmp x rest)) (less _ (first _ _ below)) ∙ none_below x rest (second _ _ below)

pub first_found : (names : BTreeSet (List ℕ)) (all : Objects) (rest : List (List ℕ × ℕ)) (e : List ℕ × ℕ) → Left names all (e ∷ rest) → map.get all e.0 ≡ Some e.1
first_found names all rest e left = left.found e.0 e.1 (ap (λ r. cond (is_eq r) (Some e.1) (es.find name_cmp e.0 rest)) (tied_itself nat_list_cmp_total e.0))

pub one_less : (names : BTreeSet (List ℕ)) (all : Objects) (rest : List (List ℕ × ℕ)) (e : List ℕ × ℕ) → Left names all (e ∷ rest) → contains (slice_cmp nat_cmp) names e.0 ≡ true → Left names all rest
one_less names all rest e left is = record { sorted = second _ _ left.sorted; found = found; passed = passed } where
  distinct : (x : List ℕ) → is_eq (name_cmp x e.0) ≡ true → es.find name_cmp x rest ≡ None
  distinct x same = ap (λ (z : List ℕ). es.find name_cmp z rest) (tie x e.0 same) ∙ none_below e.0 rest (first _ _ left.sorted)

  found : (x : List ℕ) (k : ℕ) → es.find name_cmp x rest ≡ Some k → map.get all x ≡ Some k
  found x k there = go (decide (is_eq (name_cmp x e.0))) where
    go : (is_eq (name_cmp x e.0) ≡ true) ⊎ (is_eq (name_cmp x e.0) ≡ false) → map.get all x ≡ Some k
    go (inl same) = absurd (cc (there, distinct x same))
    go (inr other) = left.found x k (ap (λ b. cond b (Some e.1) (es.find name_cmp x rest)) other ∙ there)

  passed : (x : List ℕ) (k : ℕ) → map.get all x ≡ Some k → (contains (slice_cmp nat_cmp) names x ≡ true) ⊎ (es.find name_cmp x rest ≡ Some k)
  passed x k there = go (left.passed x k there) (decide (is_eq (name_cmp x e.0))) where
    go : (contains (slice_cmp nat_cmp) names x ≡ true) ⊎ (es.find name_cmp x (e ∷ rest) ≡ Some k) → (is_eq (name_cmp x e.0) ≡ true) ⊎ (is_eq (name_cmp x e.0) ≡ false)
        → (contains (slice_cmp nat_cmp) names x ≡ true) ⊎ (es.find name_cmp x rest ≡ Some k)
    go (inl has) s = inl has
    go (inr at) (inl same) = inl (ap (contains (slice_cmp nat_cmp) names) (tie x e.0 same) ∙ is)
    go (inr at) (inr other) = inr (sym (ap (λ b. cond b (Some e.1) (es.find name_cmp x rest)) other) ∙ at)

pub all_passed : (names : BTreeSet (List ℕ)) (all : Objects) → Left names all [] → (x : List ℕ) (k : ℕ) → map.get all x ≡ Some k → contains (slice_cmp nat_cmp) names x ≡ true
all_passed names all left x k there = go (left.passed x k there) where
  go : (contains (slice_cmp nat_cmp) names x ≡ true) ⊎ (es.find {X = ℕ} name_cmp x [] ≡ Some k) → contains (slice_cmp nat_cmp) names x ≡ true
  go (inl has) = has
  go (inr none) = absurd (cc)
