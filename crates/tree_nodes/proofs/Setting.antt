-- a tree with another node where one stands
use Rattle.std.proofs.Common.{◌≡◌, ℕ, ◌⊎◌, inl, inr, true, false, cond, List, Option, Some, None, refl, sym, ap, ◌∙◌, subst}
use Rattle.std.specs.Prelude.{IsSome, option_and_then, option_map}
use Rattle.std.specs.Ordering.{eq_by_cmp}
use Rattle.tree_nodes.specs.declared.node.Node.{Node}
use Rattle.tree_nodes.specs.Tree.{Names, path_cmp}
use Rattle.tree_nodes.specs.Walk.{Steps, Held, Holds, walk, node_of, seen, IsTree}
use Rattle.tree_nodes.specs.Changes.{Sets}
use Rattle.tree_nodes.proofs.Chains.{same_some}
use Rattle.tree_nodes.proofs.Soundness.{same_path}
use Rattle.tree_nodes.proofs.Found.{tied}
use Rattle.tree_nodes.proofs.Walks.{once, one_path, same_walk, reached_held}
use Rattle.tree_nodes.proofs.Beside.{same_number}
use Rattle.tree_nodes.proofs.Chains.{differ}

module _ (c d : Steps) (v w : Holds) (tree : IsTree c v) (p : Names) (m : ℕ) (node : Node) (leads : walk c 0 p ≡ Some m) (number : node.object ≡ m) (sets : Sets m node c d v w) where
  set_walk : (path : Names) → walk d 0 path ≡ walk c 0 path
  set_walk path = same_walk c d 0 path (λ front y rest k is comes. sets.same k y)

  was : (h : Held) × (v m ≡ Some h)
  was = reached_held c v tree p m leads

  now_is : w m ≡ Some (was.0.0, was.0.1, node)
  now_is = sets.place was.0 was.1

  pub set_seen : (path : Names) → seen d w path ≡ cond (eq_by_cmp path_cmp path p) (Some node) (seen c v path)
  set_seen path = ap (option_and_then (node_of w)) (set_walk path) ∙ go (same_path path p) where
    kept : (s : Option ℕ) → walk c 0 path ≡ s → eq_by_cmp path_cmp path p ≡ false → option_and_then (node_of w) s ≡ option_and_then (node_of v) s
    kept None e apart = refl
    kept (Some n) e apart =
        ap (option_map {T = Held} (λ x. x.2)) (sets.kept n (λ same. differ _ (tied path p (one_path c (once c v tree) path p m (e ∙ ap Some same) leads)) apart))

    go : (eq_by_cmp path_cmp path p ≡ true) × (path ≡ p) ⊎ (eq_by_cmp path_cmp path p ≡ false)
        → option_and_then (node_of w) (walk c 0 path) ≡ cond (eq_by_cmp path_cmp path p) (Some node) (seen c v path)
    go (inl same) =
        ap (option_and_then (node_of w)) (ap (walk c 0) same.1 ∙ leads) ∙ ap (option_map {T = Held} (λ x. x.2)) now_is
        ∙ sym (ap (λ b. cond b (Some node) (seen c v path)) same.0)
    go (inr apart) = kept (walk c 0 path) refl apart ∙ sym (ap (λ b. cond b (Some node) (seen c v path)) apart)

  pub set_tree : IsTree d w
  set_tree = record {
    root = root;
    numbered = numbered;
    down = λ a y n e. down a y n (sym (sets.same a y) ∙ e);
    above = λ a y e. tree.above a y (sym (sets.same a y) ∙ e);
    hangs = hangs;
  } where
    root : (h : Held) × (w 0 ≡ Some h) × (h.0 ≡ 0)
    root = go (same_number 0 m) where
      go : (0 ≡ m) ⊎ (0 ≡ m → ⊥) → (h : Held) × (w 0 ≡ Some h) × (h.0 ≡ 0)
      go (inl same) =
          ((was.0.0, was.0.1, node), ap w same ∙ now_is, ap (λ (h : Held). h.0) (same_some was.0 tree.root.0 (sym was.1 ∙ ap v (sym same) ∙ tree.root.1)) ∙ tree.root.2)
      go (inr apart) = (tree.root.0, sets.kept 0 apart ∙ tree.root.1, tree.root.2)

    numbered : (a : ℕ) (h : Held) → w a ≡ Some h → h.2.object ≡ a
    numbered a h e = go (same_number a m) where
      go : (a ≡ m) ⊎ (a ≡ m → ⊥) → h.2.object ≡ a
      go (inl same) = ap (λ (t : Held). t.2.object) (same_some h (was.0.0, was.0.1, node) (sym e ∙ ap w same ∙ now_is)) ∙ number ∙ sym same
      go (inr apart) = tree.numbered a h (sym (sets.kept a apart) ∙ e)

    down : (a : ℕ) (y : List ℕ) (n : ℕ) → c a y ≡ Some n → (h : Held) × (w n ≡ Some h) × (h.0 ≡ a) × (h.1 ≡ y)
    down a y n e = go (tree.down a y n e) (same_number n m) where
      go : ((h : Held) × (v n ≡ Some h) × (h.0 ≡ a) × (h.1 ≡ y)) → (n ≡ m) ⊎ (n ≡ m → ⊥) → (h : Held) × (w n ≡ Some h) × (h.0 ≡ a) × (h.1 ≡ y)
      go h (inl same) =
          let held : was.0 ≡ h.0 = same_some was.0 h.0 (sym was.1 ∙ ap v (sym same) ∙ h.1) in
          ((was.0.0, was.0.1, node), ap w same ∙ now_is, ap (λ (t : Held). t.0) held ∙ h.2, ap (λ (t : Held). t.1) held ∙ h.3)
      go h (inr apart) = (h.0, sets.kept n apart ∙ h.1, h.2, h.3)

    hangs : (a : ℕ) → IsSome (w a) → (path : Names) × (walk d 0 path ≡ Some a)
    hangs a there = go (same_number a m) where
      go : (a ≡ m) ⊎ (a ≡ m → ⊥) → (path : Names) × (walk d 0 path ≡ Some a)
      go (inl same) = (p, set_walk p ∙ leads ∙ ap Some (sym same))
      go (inr apart) = let path = tree.hangs a (subst IsSome (sets.kept a apart) there) in (path.0, set_walk path.0 ∙ path.1)
