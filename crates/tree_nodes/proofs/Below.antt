-- a look at what lies below an object
use Rattle.std.proofs.Common.{◌≡◌, ℕ, ◌⊎◌, inl, inr, true, false, cond, List, [], ◌∷◌, Option, Some, sym, ap, ◌∙◌, subst}
use Rattle.std.specs.Ordering.{is_eq}
use Rattle.std.specs.FinMap as map
use Rattle.std.specs.FinMap.Entries as es
use Rattle.tree_stores.specs.Names.{Objects, name_cmp}
use Rattle.tree_nodes.specs.Walk.{Steps, walk, IsBeyond}
use Rattle.tree_nodes.proofs.Chains.{decide, chained}

-- these names are left of all; of the object of each that has gone by a fact holds
pub record Passed (P : ℕ → Type 0) (all : List ℕ → Option ℕ) (left : List (List ℕ × ℕ)) : Type 0 where
  pub passed : (x : List ℕ) (k : ℕ) → all x ≡ Some k → P k ⊎ (es.find name_cmp x left ≡ Some k)

pub none_passed : (P : ℕ → Type 0) (all : List ℕ → Option ℕ) (names : Objects) → ((x : List ℕ) → all x ≡ map.get names x) → Passed P all (map.entries names)
none_passed P all names same = record { passed = λ x k e. inr (sym (same x ∙ map.get-entries names x) ∙ e) }

pub one_passed : (P : ℕ → Type 0) (all : List ℕ → Option ℕ) (rest : List (List ℕ × ℕ)) (e : List ℕ × ℕ) → Passed P all (e ∷ rest) → P e.1 → Passed P all rest
one_passed P all rest e left holds = record { passed = λ x k there. go x k (left.passed x k there) (decide (is_eq (name_cmp x e.0))) } where
  go : (x : List ℕ) (k : ℕ) → P k ⊎ (es.find name_cmp x (e ∷ rest) ≡ Some k) → (is_eq (name_cmp x e.0) ≡ true) ⊎ (is_eq (name_cmp x e.0) ≡ false) → P k ⊎ (es.find name_cmp x rest ≡ Some k)
  go x k (inl has) s = inl has
  go x k (inr at) (inl same) = inl (subst P (some_is (sym (ap (λ b. cond b (Some e.1) (es.find name_cmp x rest)) same) ∙ at)) holds) where
    some_is : Some e.1 ≡ Some k → e.1 ≡ k
    some_is e = cc
  go x k (inr at) (inr other) = inr (sym (ap (λ b. cond b (Some e.1) (es.find name_cmp x rest)) other) ∙ at)

pub all_passed : (P : ℕ → Type 0) (all : List ℕ → Option ℕ) → Passed P all [] → (x : List ℕ) (k : ℕ) → all x ≡ Some k → P k
all_passed P all left x k there = go (left.passed x k there) where
  go : P k ⊎ (es.find {X = ℕ} name_cmp x [] ≡ Some k) → P k
  go (inl has) = has
  go (inr none) = absurd (cc)

-- an object lies beyond a front that is another one, where it lies beyond each that lies in that
pub beyond_all : (c : Steps) (object front : ℕ) → (object ≡ front → ⊥) → ((x : List ℕ) (next : ℕ) → c front x ≡ Some next → IsBeyond c object next) → IsBeyond c object front
beyond_all c object front other each [] leads = other (sym (some_is front object leads)) where
  some_is : (a b : ℕ) → Some a ≡ Some b → a ≡ b
  some_is a b e = cc
beyond_all c object front other each (x ∷ names) leads =
    let step = chained (λ next. walk c next names) (c front x) object leads in
    each x step.0 step.1 names step.2
