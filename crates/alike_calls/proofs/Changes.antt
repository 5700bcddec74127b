-- trees that are alike by their entries are alike path by path, and stay alike under a change
use Rattle.std.proofs.Common.{◌≡◌, suc, Bool, true, false, cond, T, List, [], ◌∷◌, length, map, Option, Some, None, refl, sym, ap, ◌∙◌, subst}
use Rattle.std.specs.Prelude.{◌&&◌, option_map}
use Rattle.std.specs.Ordering.{eq_by_cmp, is_lt}
use Rattle.std.specs.FinMap as finite
use Rattle.std.specs.FinMap.Entries as entries
use Rattle.tree_nodes.specs.declared.node.Node.{Node}
use Rattle.tree_nodes.specs.Tree.{Names, Tree, path_cmp, same_path}
use Rattle.tree_nodes.specs.Moved.{moved_path, moved_entries, moved}
use Rattle.tree_nodes.proofs.Entries.{path_total, path_ties}
use Rattle.tree_nodes.proofs.Moving.{get_moved}
use Rattle.file_tree.specs.Change.{Change}
use Rattle.file_tree.specs.Change.Change.{Keep, Put, Remove, Move}
use Rattle.file_tree.specs.Success.{changed}
use Rattle.alike_calls.specs.Alike.{Alike, LeavesPut}

module _ (fill : Node → Node) where
  abbrev pub filled : Names × Node → Names × Node
  filled e = (e.0, fill e.1)

  -- ---- lists of entries

  pub found : (es : List (Names × Node)) (path : Names) → entries.find path_cmp path (map filled es) ≡ option_map fill (entries.find path_cmp path es)
  found [] path = refl
  found (e ∷ es) path = go (eq_by_cmp path_cmp path e.0) (found es path) where
    go : (b : Bool) → entries.find path_cmp path (map filled es) ≡ option_map fill (entries.find path_cmp path es)
        → cond b (Some (fill e.1)) (entries.find path_cmp path (map filled es)) ≡ option_map fill (cond b (Some e.1) (entries.find path_cmp path es))
    go true rest = refl
    go false rest = rest

  pub lengths : (es : List (Names × Node)) → length (map filled es) ≡ length es
  lengths [] = refl
  lengths (e ∷ es) = ap suc (lengths es)

  below : (path : Names) (es : List (Names × Node)) → entries.below_all path_cmp path (map filled es) ≡ entries.below_all path_cmp path es
  below path [] = refl
  below path (e ∷ es) = ap (λ b. is_lt (path_cmp path e.0) && b) (below path es)

  sorted : (es : List (Names × Node)) → entries.is_sorted path_cmp (map filled es) ≡ entries.is_sorted path_cmp es
  sorted [] = refl
  sorted (e ∷ es) = ap (λ b. b && entries.is_sorted path_cmp (map filled es)) (below e.0 es) ∙ ap (λ b. entries.below_all path_cmp e.0 es && b) (sorted es)

  moves_along : (p q : Names) (es : List (Names × Node)) → moved_entries p q (map filled es) ≡ map filled (moved_entries p q es)
  moves_along p q [] = refl
  moves_along p q (e ∷ es) = go (same_path e.0 q) (moves_along p q es) where
    go : (b : Bool) → moved_entries p q (map filled es) ≡ map filled (moved_entries p q es)
        → cond b (moved_entries p q (map filled es)) ((moved_path p q e.0, fill e.1) ∷ moved_entries p q (map filled es))
        ≡ map filled (cond b (moved_entries p q es) ((moved_path p q e.0, e.1) ∷ moved_entries p q es))
    go true rest = rest
    go false rest = ap (λ (t : List (Names × Node)). (moved_path p q e.0, fill e.1) ∷ t) rest

  left_alone : (o : Option Node) → ((node : Node) → o ≡ Some node → fill node ≡ node) → option_map fill o ≡ o
  left_alone None left = refl
  left_alone (Some node) left = ap (λ (n : Node). Some n) (left node refl)

  module _ (tree other : Tree) where
    -- ---- path by path

    abbrev pub AlikeAtPaths : Type 0
    AlikeAtPaths = (path : Names) → finite.get other path ≡ option_map fill (finite.get tree path)

    pub at_paths : Alike fill tree other → AlikeAtPaths
    at_paths alike path =
        finite.get-entries other path ∙ ap (entries.find path_cmp path) alike ∙ found (finite.entries tree) path ∙ sym (ap (option_map fill) (finite.get-entries tree path))

    pub of_paths : AlikeAtPaths → Alike fill tree other
    of_paths alike =
        entries.same_entries path_cmp path_total path_ties (finite.entries other) (map filled (finite.entries tree)) (finite.entries_sorted other)
        (subst T (sym (sorted (finite.entries tree))) (finite.entries_sorted tree))
        (λ path. sym (finite.get-entries other path) ∙ alike path ∙ ap (option_map fill) (finite.get-entries tree path) ∙ sym (found (finite.entries tree) path))

    pub nothing_filled : Alike fill tree other → ((path : Names) (node : Node) → finite.get tree path ≡ Some node → fill node ≡ node) → other ≡ tree
    nothing_filled alike left = finite.same_map path_total path_ties other tree (λ path. at_paths alike path ∙ left_alone (finite.get tree path) (left path))

  -- ---- changes

  module _ (tree other : Tree) (alike : Alike fill tree other) where
    put_alike : (path : Names) (node : Node) → fill node ≡ node → AlikeAtPaths (finite.insert tree path node) (finite.insert other path node)
    put_alike path node left at =
        finite.get-insert path_total other path node at ∙ go (eq_by_cmp path_cmp at path) ∙ sym (ap (option_map fill) (finite.get-insert path_total tree path node at)) where
          go : (b : Bool) → cond b (Some node) (finite.get other at) ≡ option_map fill (cond b (Some node) (finite.get tree at))
          go true = ap (λ (n : Node). Some n) (sym left)
          go false = at_paths tree other alike at

    remove_alike : (path : Names) → AlikeAtPaths (finite.remove tree path) (finite.remove other path)
    remove_alike path at = finite.get-remove path_total other path at ∙ go (eq_by_cmp path_cmp at path) ∙ sym (ap (option_map fill) (finite.get-remove path_total tree path at)) where
      go : (b : Bool) → cond b None (finite.get other at) ≡ option_map fill (cond b None (finite.get tree at))
      go true = refl
      go false = at_paths tree other alike at

    move_alike : (p q : Names) → AlikeAtPaths (moved tree p q) (moved other p q)
    move_alike p q at =
        get_moved other p q at ∙ ap (entries.find path_cmp at) (ap (moved_entries p q) alike ∙ moves_along p q (finite.entries tree))
        ∙ found (moved_entries p q (finite.entries tree)) at ∙ sym (ap (option_map fill) (get_moved tree p q at))

    pub changed_alike : (change : Change) → LeavesPut fill change → Alike fill (changed tree change) (changed other change)
    changed_alike Keep left = alike
    changed_alike (Put path node) left = of_paths (finite.insert tree path node) (finite.insert other path node) (put_alike path node left)
    changed_alike (Remove path) left = of_paths (finite.remove tree path) (finite.remove other path) (remove_alike path)
    changed_alike (Move p q) left = of_paths (moved tree p q) (moved other p q) (move_alike p q)
