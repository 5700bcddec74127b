-- changes that take one another back
use Rattle.std.proofs.Common.{◌≡◌, ◌⊎◌, inl, inr, true, false, cond, ◌++◌, Option, Some, None, sym, ap, ◌∙◌}
use Rattle.std.specs.Ordering.{eq_by_cmp}
use Rattle.std.specs.FinMap as map
use Rattle.tree_nodes.specs.declared.node.Node.{Node}
use Rattle.tree_nodes.specs.Tree.{Names, Tree, path_cmp}
use Rattle.tree_nodes.specs.Moves.{IsOutside, Moves}
use Rattle.tree_nodes.proofs.Entries.{path_total, path_ties}
use Rattle.tree_nodes.proofs.Soundness.{same_path}
use Rattle.tree_nodes.proofs.Beside.{from_or_outside}

-- what two changes at one path leave
twice : (t u : Tree) (p : Names) (first last : Option Node) → ((x : Names) → map.get u x ≡ cond (eq_by_cmp path_cmp x p) last (cond (eq_by_cmp path_cmp x p) first (map.get t x))) → map.get t p ≡ last → u ≡ t
twice t u p first last is was = map.same_map path_total path_ties u t (λ x. is x ∙ go x (same_path x p)) where
  go : (x : Names) → (eq_by_cmp path_cmp x p ≡ true) × (x ≡ p) ⊎ (eq_by_cmp path_cmp x p ≡ false)
      → cond (eq_by_cmp path_cmp x p) last (cond (eq_by_cmp path_cmp x p) first (map.get t x)) ≡ map.get t x
  go x (inl same) = ap (λ b. cond b last (cond b first (map.get t x))) same.0 ∙ sym (ap (map.get t) same.1 ∙ was)
  go x (inr apart) = ap (λ b. cond b last (cond b first (map.get t x))) apart

pub undo_put : (t : Tree) (p : Names) (n : Node) → map.get t p ≡ None → map.remove (map.insert t p n) p ≡ t
undo_put t p n was = twice t (map.remove (map.insert t p n) p) p (Some n) None
    (λ x. map.get-remove path_total (map.insert t p n) p x ∙ ap (cond (eq_by_cmp path_cmp x p) None) (map.get-insert path_total t p n x)) was

pub undo_remove : (t : Tree) (p : Names) (n : Node) → map.get t p ≡ Some n → map.insert (map.remove t p) p n ≡ t
undo_remove t p n was = twice t (map.insert (map.remove t p) p n) p None (Some n)
    (λ x. map.get-insert path_total (map.remove t p) p n x ∙ ap (cond (eq_by_cmp path_cmp x p) (Some n)) (map.get-remove path_total t p x)) was

pub undo_set : (t : Tree) (p : Names) (m n : Node) → map.get t p ≡ Some n → map.insert (map.insert t p m) p n ≡ t
undo_set t p m n was = twice t (map.insert (map.insert t p m) p n) p (Some m) (Some n)
    (λ x. map.get-insert path_total (map.insert t p m) p n x ∙ ap (cond (eq_by_cmp path_cmp x p) (Some n)) (map.get-insert path_total t p m x)) was

pub undo_move : (p q : Names) (before after last : Names → Option Node) → Moves p q before after → Moves q p after last → ((r : Names) → before (q ++ r) ≡ None) → (path : Names) → last path ≡ before path
undo_move p q before after last there back free path = go (from_or_outside path p) (from_or_outside path q) where
  go : ((r : Names) × (path ≡ p ++ r)) ⊎ IsOutside p path → ((r : Names) × (path ≡ q ++ r)) ⊎ IsOutside q path → last path ≡ before path
  go (inl from) t = ap last from.1 ∙ back.along from.0 ∙ there.along from.0 ∙ sym (ap before from.1)
  go (inr off) (inl to) = ap last to.1 ∙ back.gone to.0 ∙ sym (ap before to.1 ∙ free to.0)
  go (inr off) (inr outside) = back.others path outside off ∙ there.others path off outside
