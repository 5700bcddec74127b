-- what stands where in a tree after a move
use Rattle.std.proofs.Common.{◌≡◌, ◌⊎◌, inl, inr, Bool, true, false, cond, List, [], ◌∷◌, ◌++◌, length, drop, Some, None, refl, sym, ap, ◌∙◌, subst, append-nil}
use Rattle.std.specs.Prelude.{Option, IsSome, ◌||◌}
use Rattle.std.specs.List.{list_any}
use Rattle.std.specs.Ordering.{eq_by_cmp}
use Rattle.std.specs.FinMap as map
use Rattle.std.specs.FinMap.Entries as es
use Rattle.tree_nodes.specs.declared.node.Node.{Node}
use Rattle.tree_nodes.specs.Tree.{Names, Tree, path_cmp, same_path as is_same, is_below, is_bare}
use Rattle.tree_nodes.specs.Moved.{is_from, moved_path, moved_entries, moved}
use Rattle.tree_nodes.specs.Moves.{IsOutside, Moves}
use Rattle.tree_nodes.proofs.Soundness.{same_path, same_names}
use Rattle.tree_nodes.proofs.Chains.{negated, differ, decide, absent}
use Rattle.tree_nodes.proofs.Found.{tied, untied, same_lists, parts_of, from_front, behind_front, lies_below, bare_below}
use Rattle.tree_nodes.proofs.Moving.{get_moved}
use Rattle.tree_nodes.proofs.Beside.{from_or_outside}

-- ---- fronts of paths

pub cancel : (q r s : Names) → q ++ r ≡ q ++ s → r ≡ s
cancel q r s e = sym (behind_front q r) ∙ ap (drop (length q)) e ∙ behind_front q s

-- of two fronts of one path one is a front of the other
fronts_meet : (p q r s : Names) → p ++ r ≡ q ++ s → ((t : Names) × (q ≡ p ++ t)) ⊎ ((t : Names) × (p ≡ q ++ t))
fronts_meet [] q r s e = inl (q, refl)
fronts_meet (x ∷ p) [] r s e = inr (x ∷ p, refl)
fronts_meet (x ∷ p) (y ∷ q) r s e = go (fronts_meet p q r s (cc)) where
  head : x ≡ y
  head = cc

  go : ((t : Names) × (q ≡ p ++ t)) ⊎ ((t : Names) × (p ≡ q ++ t)) → ((t : Names) × (y ∷ q ≡ x ∷ p ++ t)) ⊎ ((t : Names) × (x ∷ p ≡ y ∷ q ++ t))
  go (inl t) = inl (t.0, (λ i. sym head i ∷ t.1 i))
  go (inr t) = inr (t.0, (λ i. head i ∷ t.1 i))

alike : (a b c d : Names) → (a ≡ b → c ≡ d) → (c ≡ d → a ≡ b) → eq_by_cmp path_cmp a b ≡ eq_by_cmp path_cmp c d
alike a b c d there back = go (same_path a b) where
  go : (eq_by_cmp path_cmp a b ≡ true) × (a ≡ b) ⊎ (eq_by_cmp path_cmp a b ≡ false) → eq_by_cmp path_cmp a b ≡ eq_by_cmp path_cmp c d
  go (inl tie) = tie.0 ∙ sym (tied c d (there tie.1))
  go (inr other) = other ∙ sym (untied c d (λ e. differ _ (tied a b (back e)) other))

-- ---- the entries in their new places

-- an entry that isn't below q, and not at q
abbrev Stays : Names → Names → Type 0
Stays q k = (is_below k q ≡ false) × (k ≡ q → ⊥)

none_below : (b c : Bool) → (b || c) ≡ false → (b ≡ false) × (c ≡ false)
none_below true c e = absurd (cc)
none_below false c e = (refl, e)

isnt_at : (k q : Names) → is_same k q ≡ false → k ≡ q → ⊥
isnt_at k q isnt e = differ (is_same k q) (ap (λ (z : Names). is_same z q) e ∙ same_names q) isnt

-- the node that stood at y is the one at x
follows : (p q x y : Names) → (y ≡ q → ⊥) → ((k : Names) → Stays q k → eq_by_cmp path_cmp x (moved_path p q k) ≡ eq_by_cmp path_cmp y k) → (xs : List (Names × Node))
    → list_any (λ e. is_below e.0 q) xs ≡ false → es.find path_cmp x (moved_entries p q xs) ≡ es.find path_cmp y xs
follows p q x y other along [] bare = refl
follows p q x y other along (e ∷ xs) bare = go (decide (is_same e.0 q)) (follows p q x y other along xs tests.1) where
  tests : (is_below e.0 q ≡ false) × (list_any (λ e. is_below e.0 q) xs ≡ false)
  tests = none_below (is_below e.0 q) (list_any (λ e. is_below e.0 q) xs) bare

  first : (b : Bool) → is_same e.0 q ≡ b
      → es.find path_cmp x (moved_entries p q (e ∷ xs)) ≡ es.find path_cmp x (cond b (moved_entries p q xs) ((moved_path p q e.0, e.1) ∷ moved_entries p q xs))
  first b is = ap (λ b. es.find path_cmp x (cond b (moved_entries p q xs) ((moved_path p q e.0, e.1) ∷ moved_entries p q xs))) is

  go : (is_same e.0 q ≡ true) ⊎ (is_same e.0 q ≡ false) → es.find path_cmp x (moved_entries p q xs) ≡ es.find path_cmp y xs
      → es.find path_cmp x (moved_entries p q (e ∷ xs)) ≡ es.find path_cmp y (e ∷ xs)
  go (inl is) rest = first true is ∙ rest ∙ sym (ap (λ b. cond b (Some e.1) (es.find path_cmp y xs)) (untied y e.0 (λ s. other (s ∙ same_lists e.0 q is))))
  go (inr isnt) rest = first false isnt ∙ (λ i. cond (along e.0 (tests.0, isnt_at e.0 q isnt) i) (Some e.1) (rest i))

-- nothing stands at x
never : (p q x : Names) → ((k : Names) → Stays q k → x ≡ moved_path p q k → ⊥) → (xs : List (Names × Node)) → list_any (λ e. is_below e.0 q) xs ≡ false
    → es.find path_cmp x (moved_entries p q xs) ≡ None
never p q x apart [] bare = refl
never p q x apart (e ∷ xs) bare = go (decide (is_same e.0 q)) (never p q x apart xs tests.1) where
  tests : (is_below e.0 q ≡ false) × (list_any (λ e. is_below e.0 q) xs ≡ false)
  tests = none_below (is_below e.0 q) (list_any (λ e. is_below e.0 q) xs) bare

  first : (b : Bool) → is_same e.0 q ≡ b
      → es.find path_cmp x (moved_entries p q (e ∷ xs)) ≡ es.find path_cmp x (cond b (moved_entries p q xs) ((moved_path p q e.0, e.1) ∷ moved_entries p q xs))
  first b is = ap (λ b. es.find path_cmp x (cond b (moved_entries p q xs) ((moved_path p q e.0, e.1) ∷ moved_entries p q xs))) is

  go : (is_same e.0 q ≡ true) ⊎ (is_same e.0 q ≡ false) → es.find path_cmp x (moved_entries p q xs) ≡ None → es.find path_cmp x (moved_entries p q (e ∷ xs)) ≡ None
  go (inl is) rest = first true is ∙ rest
  go (inr isnt) rest = first false isnt
      ∙ ap (λ b. cond b (Some e.1) (es.find path_cmp x (moved_entries p q xs))) (untied x (moved_path p q e.0) (apart e.0 (tests.0, isnt_at e.0 q isnt))) ∙ rest

-- ---- what goes from p to q: something stands at p, and neither is a front of the other

module _ (tree : Tree) (p q : Names) (stood : IsSome (map.get tree p)) (outside : is_from q p ≡ false) (bare : is_bare tree q ≡ true) where
  not_within : (t : Names) → q ≡ p ++ t → ⊥
  not_within t e = differ (is_from q p) (ap (λ (z : Names). is_from z p) e ∙ from_front p t) outside

  not_below : (t : Names) → p ≡ q ++ t → ⊥
  not_below [] e = not_within [] (sym (append-nil q) ∙ sym e ∙ sym (append-nil p))
  not_below (n ∷ t) e = absent _ (bare_below tree q bare n t) (subst (λ (z : Names). IsSome (map.get tree z)) e stood)

  places_apart : (r s : Names) → p ++ r ≡ q ++ s → ⊥
  places_apart r s e = go (fronts_meet p q r s e) where
    go : ((t : Names) × (q ≡ p ++ t)) ⊎ ((t : Names) × (p ≡ q ++ t)) → ⊥
    go (inl t) = not_within t.0 t.1
    go (inr t) = not_below t.0 t.1

  goes : (k : Names) → is_from k p ≡ true → moved_path p q k ≡ q ++ drop (length p) k
  goes k from = ap (λ b. cond b (q ++ drop (length p) k) k) from

  stays : (k : Names) → is_from k p ≡ false → moved_path p q k ≡ k
  stays k apart = ap (λ b. cond b (q ++ drop (length p) k) k) apart

  empty_below : list_any (λ e. is_below e.0 q) (map.entries tree) ≡ false
  empty_below = negated (list_any (λ e. is_below e.0 q) (map.entries tree)) bare

  -- what stays isn't at q or below it
  not_reached : (k r : Names) → Stays q k → q ++ r ≡ k → ⊥
  not_reached k [] still e = still.1 (sym e ∙ append-nil q)
  not_reached k (n ∷ r) still e = differ (is_below k q) (ap (λ (z : Names). is_below z q) (sym e) ∙ lies_below q n r) still.0

  not_from : (k r : Names) → is_from k p ≡ false → p ++ r ≡ k → ⊥
  not_from k r apart e = differ (is_from k p) (ap (λ (z : Names). is_from z p) (sym e) ∙ from_front p r) apart

  along : (below k : Names) → Stays q k → eq_by_cmp path_cmp (q ++ below) (moved_path p q k) ≡ eq_by_cmp path_cmp (p ++ below) k
  along below k still = go (decide (is_from k p)) where
    go : (is_from k p ≡ true) ⊎ (is_from k p ≡ false) → eq_by_cmp path_cmp (q ++ below) (moved_path p q k) ≡ eq_by_cmp path_cmp (p ++ below) k
    go (inl from) = alike (q ++ below) (moved_path p q k) (p ++ below) k
        (λ e. ap (λ (z : Names). p ++ z) (cancel q below (drop (length p) k) (e ∙ goes k from)) ∙ sym (parts_of k p from))
        (λ e. ap (λ (z : Names). q ++ z) (cancel p below (drop (length p) k) (e ∙ parts_of k p from)) ∙ sym (goes k from))
    go (inr apart) = alike (q ++ below) (moved_path p q k) (p ++ below) k (λ e. absurd (not_reached k below still (e ∙ stays k apart))) (λ e. absurd (not_from k below apart e))

  left : (below k : Names) → Stays q k → p ++ below ≡ moved_path p q k → ⊥
  left below k still = go (decide (is_from k p)) where
    go : (is_from k p ≡ true) ⊎ (is_from k p ≡ false) → p ++ below ≡ moved_path p q k → ⊥
    go (inl from) e = places_apart below (drop (length p) k) (e ∙ goes k from)
    go (inr apart) e = not_from k below apart (e ∙ stays k apart)

  beside : (path : Names) → IsOutside p path → IsOutside q path → (k : Names) → Stays q k → eq_by_cmp path_cmp path (moved_path p q k) ≡ eq_by_cmp path_cmp path k
  beside path from_p from_q k still = go (decide (is_from k p)) where
    go : (is_from k p ≡ true) ⊎ (is_from k p ≡ false) → eq_by_cmp path_cmp path (moved_path p q k) ≡ eq_by_cmp path_cmp path k
    go (inl from) = alike path (moved_path p q k) path k (λ e. absurd (from_q (drop (length p) k) (e ∙ goes k from))) (λ e. absurd (from_p (drop (length p) k) (e ∙ parts_of k p from)))
    go (inr apart) = ap (eq_by_cmp path_cmp path) (stays k apart)

  pub has_moved : Moves p q (map.get tree) (map.get (moved tree p q))
  has_moved = record {
    along = λ below. get_moved tree p q (q ++ below)
        ∙ follows p q (q ++ below) (p ++ below) (λ e. not_within below (sym e)) (along below) (map.entries tree) empty_below ∙ sym (map.get-entries tree (p ++ below));
    gone = λ below. get_moved tree p q (p ++ below) ∙ never p q (p ++ below) (left below) (map.entries tree) empty_below;
    others = λ path from_p from_q. get_moved tree p q path
        ∙ follows p q path path (λ e. from_q [] (e ∙ sym (append-nil q))) (beside path from_p from_q) (map.entries tree) empty_below ∙ sym (map.get-entries tree path);
  }

  -- what stands where after a move is known by what stood where
  pub one_move : (after before : Names → Option Node) → ((path : Names) → IsOutside q path → before path ≡ map.get tree path) → Moves p q before after
      → (path : Names) → after path ≡ map.get (moved tree p q) path
  one_move after before same moves path = go (from_or_outside path q) (from_or_outside path p) where
    go : ((r : Names) × (path ≡ q ++ r)) ⊎ IsOutside q path → ((r : Names) × (path ≡ p ++ r)) ⊎ IsOutside p path → after path ≡ map.get (moved tree p q) path
    go (inl to) from =
        ap after to.1 ∙ moves.along to.0 ∙ same (p ++ to.0) (λ below e. places_apart to.0 below e) ∙ sym (has_moved.along to.0) ∙ sym (ap (map.get (moved tree p q)) to.1)
    go (inr off) (inl from) = ap after from.1 ∙ moves.gone from.0 ∙ sym (ap (map.get (moved tree p q)) from.1 ∙ has_moved.gone from.0)
    go (inr off) (inr outside) = moves.others path outside off ∙ same path off ∙ sym (has_moved.others path outside off)
