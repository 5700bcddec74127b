-- the opening tree
use Rattle.std.proofs.Common.{◌≡◌, ℕ, ◌⊎◌, inl, inr, List, [], ◌∷◌, Option, Some, None, refl, sym, ap, ◌∙◌, arith}
use Rattle.std.specs.Prelude.{IsSome, option_and_then, option_map}
use Rattle.std.specs.FinMap as map
use Rattle.tree_nodes.specs.declared.node.Node.{Node}
use Rattle.tree_nodes.specs.declared.node.Content.TheVariants.{Directory}
use Rattle.tree_nodes.specs.Tree.{Names, path_cmp, opening}
use Rattle.tree_nodes.specs.Walk.{Held, walk, node_of, seen, IsTree}
use Rattle.tree_nodes.specs.Table.{Table, child, held}
use Rattle.tree_nodes.specs.Shown.{IsTableOf}
use Rattle.tree_nodes.specs.Openings.{IsOpening}
use Rattle.tree_nodes.proofs.Entries.{path_total}
use Rattle.tree_nodes.proofs.Chains.{same_some}
use Rattle.tree_nodes.proofs.Beside.{same_number}

abbrev root : Node
root = record { object = 0; content = Directory }

at_root : map.get opening [] ≡ Some root
unfolding opening
at_root = map.get-insert path_total map.empty [] root []

below_root : (x : List ℕ) (p : Names) → map.get opening (x ∷ p) ≡ None
unfolding opening
below_root x p = map.get-insert path_total map.empty [] root (x ∷ p) ∙ map.get-empty path_cmp (x ∷ p)

module _ (m : Table) (is : IsOpening m) where
  only_root : (o : ℕ) (h : Held) → held m o ≡ Some h → (o ≡ 0) × (h ≡ (0, [], root))
  only_root o h e = go (same_number o 0) where
    go : (o ≡ 0) ⊎ (o ≡ 0 → ⊥) → (o ≡ 0) × (h ≡ (0, [], root))
    go (inl zero) = (zero, same_some h (0, [], root) (sym e ∙ ap (held m) zero ∙ is.root))
    go (inr other) = absurd (cc (e, is.others o other))

  tree : IsTree (child m) (held m)
  tree = record {
    root = ((0, [], root), is.root, refl);
    numbered = λ o h e. let one = only_root o h e in ap (λ (z : Held). z.2.object) one.1 ∙ sym one.0;
    down = λ o x n e. absurd (cc (e, is.bare o x));
    above = λ o x e. absurd (cc (e, is.bare o x));
    hangs = λ o there. ([], ap Some (sym (zero o (held m o) refl there)));
  } where
    zero : (o : ℕ) (s : Option Held) → held m o ≡ s → IsSome s → o ≡ 0
    zero o None e there = absurd (cc)
    zero o (Some h) e there = (only_root o h e).0

  pub opens : IsTableOf m opening
  opens = record { table = record { tree = tree; few = omega (arith, is.len) }; agrees = agrees } where
    agrees : (path : Names) → map.get opening path ≡ seen (child m) (held m) path
    agrees [] = at_root ∙ sym (ap (option_map {T = Held} (λ z. z.2)) is.root)
    agrees (x ∷ p) = below_root x p ∙ sym (ap (option_and_then (node_of (held m))) (ap (option_and_then (λ n. walk (child m) n p)) (is.bare 0 x)))
