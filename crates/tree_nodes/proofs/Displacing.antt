-- a rename over an object with nothing below it: that object goes, and then the name is free
use Rattle.std.proofs.Common.{◌≡◌, ℕ, ◌⊎◌, inl, inr, cond, List, [], ◌∷◌, ◌++◌, Option, Some, None, refl, sym, ap, ◌∙◌, append_assoc, append-nil}
use Rattle.std.specs.Prelude.{option_and_then}
use Rattle.std.specs.Ordering.{eq_by_cmp}
use Rattle.tree_nodes.specs.Tree.{Names, path_cmp}
use Rattle.tree_nodes.specs.Walk.{Steps, Held, Holds, walk, seen, IsTree}
use Rattle.tree_nodes.specs.Moves.{IsOutside}
use Rattle.tree_nodes.specs.Changes.{Cuts}
use Rattle.tree_nodes.proofs.Found.{untied}
use Rattle.tree_nodes.proofs.Walks.{walk_on, walk_last, once, one_path}
use Rattle.tree_nodes.proofs.Beside.{same_number, same_place}
use Rattle.tree_nodes.proofs.Putting.{outside_same, directory_same}
use Rattle.tree_nodes.proofs.Taking.{take_seen, take_tree}

-- the steps without a name, and what is held without an object
pub without_name : ℕ → List ℕ → Steps → Steps
without_name o x c b y = elim (same_place b o y x) as (λ _. Option ℕ) [ inl _ ↦ None | inr _ ↦ c b y ]

pub without_object : ℕ → Holds → Holds
without_object m v b = elim (same_number b m) as (λ _. Option Held) [ inl _ ↦ None | inr _ ↦ v b ]

module _ (o : ℕ) (x : List ℕ) (c : Steps) where
  pub name_gone : without_name o x c o x ≡ None
  unfolding without_name
  name_gone = go (same_place o o x x) where
    go : (s : ((o ≡ o) × (x ≡ x)) ⊎ (o ≡ o → x ≡ x → ⊥)) → elim s as (λ _. Option ℕ) [ inl _ ↦ None | inr _ ↦ c o x ] ≡ None
    go (inl same) = refl
    go (inr apart) = absurd (apart refl refl)

  pub name_stays : (b : ℕ) (y : List ℕ) → (b ≡ o → y ≡ x → ⊥) → without_name o x c b y ≡ c b y
  unfolding without_name
  name_stays b y off = go (same_place b o y x) where
    go : (s : ((b ≡ o) × (y ≡ x)) ⊎ (b ≡ o → y ≡ x → ⊥)) → elim s as (λ _. Option ℕ) [ inl _ ↦ None | inr _ ↦ c b y ] ≡ c b y
    go (inl same) = absurd (off same.0 same.1)
    go (inr apart) = refl

module _ (m : ℕ) (v : Holds) where
  pub object_gone : without_object m v m ≡ None
  unfolding without_object
  object_gone = go (same_number m m) where
    go : (s : (m ≡ m) ⊎ (m ≡ m → ⊥)) → elim s as (λ _. Option Held) [ inl _ ↦ None | inr _ ↦ v m ] ≡ None
    go (inl same) = refl
    go (inr apart) = absurd (apart refl)

  pub object_stays : (b : ℕ) → (b ≡ m → ⊥) → without_object m v b ≡ v b
  unfolding without_object
  object_stays b off = go (same_number b m) where
    go : (s : (b ≡ m) ⊎ (b ≡ m → ⊥)) → elim s as (λ _. Option Held) [ inl _ ↦ None | inr _ ↦ v b ] ≡ v b
    go (inl same) = absurd (off same)
    go (inr apart) = refl

pub cuts_it : (o : ℕ) (x : List ℕ) (m : ℕ) (c : Steps) (v : Holds) → Cuts o x m c (without_name o x c) v (without_object m v)
cuts_it o x m c v = record { here = name_gone o x c; others = name_stays o x c; gone = object_gone m v; kept = object_stays m v }

-- the object m at p, x goes to q, y, where k lies
module _ (c d : Steps) (v w : Holds) (tree : IsTree c v) (p : Names) (o : ℕ) (x : List ℕ) (m : ℕ) (q : Names) (a : ℕ) (y : List ℕ) (k : ℕ) (leads : walk c 0 p ≡ Some o) (lies : c o x ≡ Some m)
    (to : walk c 0 q ≡ Some a) (there : c a y ≡ Some k) (bare : (z : List ℕ) → c k z ≡ None) (outside : IsOutside (p ++ x ∷ []) (q ++ y ∷ [])) where
  c₁ : Steps
  c₁ = without_name a y c

  v₁ : Holds
  v₁ = without_object k v

  pub between_tree : IsTree (without_name a y c) (without_object k v)
  between_tree = take_tree c (without_name a y c) v (without_object k v) tree q a y k to there bare (cuts_it a y k c v)

  pub between_seen : (path : Names) → seen (without_name a y c) (without_object k v) path ≡ cond (eq_by_cmp path_cmp path (q ++ y ∷ [])) None (seen c v path)
  between_seen = take_seen c (without_name a y c) v (without_object k v) tree q a y k to there bare (cuts_it a y k c v)

  pub between_same : (path : Names) → IsOutside (q ++ y ∷ []) path → seen (without_name a y c) (without_object k v) path ≡ seen c v path
  between_same path off = between_seen path ∙ ap (λ b. cond b None (seen c v path)) (untied path (q ++ y ∷ []) (λ e. off [] (e ∙ sym (append-nil (q ++ y ∷ [])))))

  stood : walk c 0 (q ++ y ∷ []) ≡ Some k
  stood = walk_last c 0 q y a to ∙ there

  directory_outside : IsOutside (p ++ x ∷ []) q
  directory_outside below e = outside (below ++ y ∷ []) (ap (λ (z : Names). z ++ y ∷ []) e ∙ append_assoc (p ++ x ∷ []) below (y ∷ []))

  not_there : IsOutside (q ++ y ∷ []) p
  not_there [] e = absurd (cc (sym lies ∙ ap (λ z. c z x) (some_same o k (sym leads ∙ ap (walk c 0) (e ∙ append-nil (q ++ y ∷ [])) ∙ stood)) ∙ bare x)) where
    some_same : (i j : ℕ) → Some i ≡ Some j → i ≡ j
    some_same i j e = cc
  not_there (n ∷ r) e = absurd (cc (sym leads ∙ ap (walk c 0) e ∙ walk_on c 0 (q ++ y ∷ []) (n ∷ r) k stood ∙ ap (option_and_then (λ z. walk c z r)) (bare n)))

  pub leads_still : walk (without_name a y c) 0 p ≡ Some o
  leads_still = outside_same c (without_name a y c) v tree q a y to (name_stays a y c) p not_there ∙ leads

  pub to_still : walk (without_name a y c) 0 q ≡ Some a
  to_still = directory_same c (without_name a y c) v tree q a y to (name_stays a y c)

  names_apart : o ≡ a → x ≡ y → ⊥
  names_apart s t =
      let fronts : q ≡ p = one_path c (once c v tree) q p a to (leads ∙ ap Some s) in
      outside [] ((λ i. fronts i ++ sym t i ∷ []) ∙ sym (append-nil (p ++ x ∷ [])))

  pub lies_still : without_name a y c o x ≡ Some m
  lies_still = name_stays a y c o x names_apart ∙ lies

  pub objects_apart : m ≡ k → ⊥
  objects_apart s = let twice = (once c v tree).one o a x y m lies (there ∙ ap Some (sym s)) in names_apart twice.0 twice.1

  pub still_outside : IsOutside (p ++ x ∷ []) q
  still_outside = directory_outside
