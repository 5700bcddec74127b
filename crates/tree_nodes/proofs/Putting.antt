-- a tree with an object more
use Rattle.std.proofs.Common.{◌≡◌, ℕ, ◌⊎◌, inl, inr, cond, List, [], ◌∷◌, ◌++◌, Option, Some, None, refl, sym, ap, ◌∙◌, subst, append_assoc, append-nil}
use Rattle.std.specs.Prelude.{IsSome, option_and_then, option_map}
use Rattle.std.specs.Ordering.{eq_by_cmp}
use Rattle.tree_nodes.specs.declared.node.Node.{Node}
use Rattle.tree_nodes.specs.Tree.{Names, path_cmp}
use Rattle.tree_nodes.specs.Walk.{Steps, Held, Holds, walk, node_of, seen, IsTree}
use Rattle.tree_nodes.specs.Moves.{IsOutside}
use Rattle.tree_nodes.specs.Changes.{SameBut, Adds}
use Rattle.tree_nodes.proofs.Chains.{same_some}
use Rattle.tree_nodes.proofs.Found.{tied, untied}
use Rattle.tree_nodes.proofs.Walks.{walk_front, walk_on, walk_last, once, one_path, same_walk, reached_held, no_child}
use Rattle.tree_nodes.proofs.Beside.{same_number, same_place, no_longer, directory_outside, beside, from_or_outside}

-- steps that differ at one name alone lead the same way to where that name isn't on the way
module _ (c d : Steps) (v : Holds) (tree : IsTree c v) (p : Names) (o : ℕ) (x : List ℕ) (leads : walk c 0 p ≡ Some o) (others : SameBut o x c d) where
  pub outside_same : (path : Names) → IsOutside (p ++ x ∷ []) path → walk d 0 path ≡ walk c 0 path
  outside_same path outside = same_walk c d 0 path (λ front y rest k is comes. go front y rest k is comes (same_place k o y x)) where
    go : (front : Names) (y : List ℕ) (rest : Names) (k : ℕ) → path ≡ front ++ y ∷ rest → walk c 0 front ≡ Some k → ((k ≡ o) × (y ≡ x)) ⊎ (k ≡ o → y ≡ x → ⊥) → d k y ≡ c k y
    go front y rest k is comes (inr apart) = others k y apart
    go front y rest k is comes (inl same) =
        let fronts : front ≡ p = one_path c (once c v tree) front p o (comes ∙ ap Some same.0) leads in
        absurd (outside rest (is ∙ (λ i. fronts i ++ same.1 i ∷ rest) ∙ sym (append_assoc p (x ∷ []) rest)))

  pub directory_same : walk d 0 p ≡ Some o
  directory_same = outside_same p (directory_outside p x) ∙ leads

pub none_from : (c : Steps) (o : ℕ) (p r : Names) → walk c o p ≡ None → walk c o (p ++ r) ≡ None
none_from c o p r e = walk_front c o p r ∙ ap (option_and_then (λ n. walk c n r)) e

pub one_node : (w : Holds) (n : ℕ) (h : Held) → w n ≡ Some h → node_of w n ≡ Some h.2
one_node w n h e = ap (option_map {T = Held} (λ x. x.2)) e

module _ (c d : Steps) (v w : Holds) (tree : IsTree c v) (p : Names) (o : ℕ) (x : List ℕ) (m : ℕ) (node : Node)
    (leads : walk c 0 p ≡ Some o) (free : c o x ≡ None) (new : v m ≡ None) (number : node.object ≡ m) (adds : Adds o x m node c d v w) where
  put_here : walk d 0 (p ++ x ∷ []) ≡ Some m
  put_here = walk_last d 0 p x o (directory_same c d v tree p o x leads adds.others) ∙ adds.here

  isnt_new : (n : ℕ) (h : Held) → v n ≡ Some h → n ≡ m → ⊥
  isnt_new n h e same = absurd (cc (e, ap v same ∙ new))

  pub nothing_in : (y : List ℕ) → d m y ≡ None
  nothing_in y =
      let directory = reached_held c v tree p o leads in
      adds.others m y (λ same _. isnt_new o directory.0 directory.1 (sym same)) ∙ no_child c v tree m y new

  was_none : (r : Names) → walk c 0 ((p ++ x ∷ []) ++ r) ≡ None
  was_none r = none_from c 0 (p ++ x ∷ []) r (walk_last c 0 p x o leads ∙ free)

  pub put_seen : (path : Names) → seen d w path ≡ cond (eq_by_cmp path_cmp path (p ++ x ∷ [])) (Some node) (seen c v path)
  put_seen path = go (beside path (p ++ x ∷ [])) where
    kept : (s : Option ℕ) → walk c 0 path ≡ s → option_and_then (node_of w) s ≡ option_and_then (node_of v) s
    kept None e = refl
    kept (Some n) e =
        let h = reached_held c v tree path n e in
        ap (option_map {T = Held} (λ x. x.2)) (adds.kept n (isnt_new n h.0 h.1))

    go : (path ≡ p ++ x ∷ []) ⊎ (((n : List ℕ) × (r : Names) × (path ≡ (p ++ x ∷ []) ++ n ∷ r)) ⊎ IsOutside (p ++ x ∷ []) path)
        → seen d w path ≡ cond (eq_by_cmp path_cmp path (p ++ x ∷ [])) (Some node) (seen c v path)
    go (inl same) =
        ap (seen d w) same ∙ ap (option_and_then (node_of w)) put_here ∙ one_node w m (o, x, node) adds.place
        ∙ sym (ap (λ b. cond b (Some node) (seen c v path)) (tied path (p ++ x ∷ []) same))
    go (inr (inl b)) =
        ap (seen d w) b.2 ∙ ap (option_and_then (node_of w)) (walk_on d 0 (p ++ x ∷ []) (b.0 ∷ b.1) m put_here ∙ ap (option_and_then (λ n. walk d n b.1)) (nothing_in b.0))
        ∙ sym (ap (λ b. cond b (Some node) (seen c v path)) (untied path (p ++ x ∷ []) (λ s. no_longer (p ++ x ∷ []) b.0 b.1 (sym b.2 ∙ s)))
        ∙ ap (seen c v) b.2 ∙ ap (option_and_then (node_of v)) (was_none (b.0 ∷ b.1)))
    go (inr (inr outside)) =
        ap (option_and_then (node_of w)) (outside_same c d v tree p o x leads adds.others path outside) ∙ kept (walk c 0 path) refl
        ∙ sym (ap (λ b. cond b (Some node) (seen c v path)) (untied path (p ++ x ∷ []) (λ s. outside [] (s ∙ sym (append-nil (p ++ x ∷ []))))))

  pub put_tree : IsTree d w
  put_tree = record {
    root = (tree.root.0, adds.kept 0 (isnt_new 0 tree.root.0 tree.root.1) ∙ tree.root.1, tree.root.2);
    numbered = numbered;
    down = down;
    above = above;
    hangs = hangs;
  } where
    numbered : (a : ℕ) (h : Held) → w a ≡ Some h → h.2.object ≡ a
    numbered a h e = go (same_number a m) where
      go : (a ≡ m) ⊎ (a ≡ m → ⊥) → h.2.object ≡ a
      go (inl same) = ap (λ (t : Held). t.2.object) (same_some h (o, x, node) (sym e ∙ ap w same ∙ adds.place)) ∙ number ∙ sym same
      go (inr apart) = tree.numbered a h (sym (adds.kept a apart) ∙ e)

    down : (a : ℕ) (y : List ℕ) (n : ℕ) → d a y ≡ Some n → (h : Held) × (w n ≡ Some h) × (h.0 ≡ a) × (h.1 ≡ y)
    down a y n e = go (same_place a o y x) where
      go : ((a ≡ o) × (y ≡ x)) ⊎ (a ≡ o → y ≡ x → ⊥) → (h : Held) × (w n ≡ Some h) × (h.0 ≡ a) × (h.1 ≡ y)
      go (inl same) =
          let is : n ≡ m = same_some n m (sym e ∙ (λ i. d (same.0 i) (same.1 i)) ∙ adds.here) in
          ((o, x, node), ap w is ∙ adds.place, sym same.0, sym same.1)
      go (inr apart) =
          let h = tree.down a y n (sym (adds.others a y apart) ∙ e) in
          (h.0, adds.kept n (isnt_new n h.0 h.1) ∙ h.1, h.2, h.3)

    above : (a : ℕ) (y : List ℕ) → d a y ≡ Some 0 → ⊥
    above a y e = go (same_place a o y x) where
      go : ((a ≡ o) × (y ≡ x)) ⊎ (a ≡ o → y ≡ x → ⊥) → ⊥
      go (inl same) = isnt_new 0 tree.root.0 tree.root.1 (same_some 0 m (sym e ∙ (λ i. d (same.0 i) (same.1 i)) ∙ adds.here))
      go (inr apart) = tree.above a y (sym (adds.others a y apart) ∙ e)

    hangs : (a : ℕ) → IsSome (w a) → (path : Names) × (walk d 0 path ≡ Some a)
    hangs a there = go (same_number a m) where
      on : (path : Names) → walk c 0 path ≡ Some a → ((r : Names) × (path ≡ (p ++ x ∷ []) ++ r)) ⊎ IsOutside (p ++ x ∷ []) path → (q : Names) × (walk d 0 q ≡ Some a)
      on path is (inl from) = absurd (cc (sym is ∙ ap (walk c 0) from.1 ∙ was_none from.0))
      on path is (inr outside) = (path, outside_same c d v tree p o x leads adds.others path outside ∙ is)

      go : (a ≡ m) ⊎ (a ≡ m → ⊥) → (path : Names) × (walk d 0 path ≡ Some a)
      go (inl same) = (p ++ x ∷ [], put_here ∙ ap Some (sym same))
      go (inr apart) =
          let path = tree.hangs a (subst IsSome (adds.kept a apart) there) in
          on path.0 path.1 (from_or_outside path.0 (p ++ x ∷ []))
