-- the names in a directory
use Rattle.std.proofs.Common.{◌≡◌, ℕ, List, Option, Some, None, refl, sym, ap, ◌∙◌, subst}
use Rattle.std.specs.Prelude.{◌↔◌, IsSome, IfSome, option_and_then, option_map}
use Rattle.std.specs.FinMap as map
use Rattle.tree_nodes.specs.declared.table.Entry.{Entry}
use Rattle.tree_nodes.specs.Tree.{Names, Tree, entry_of}
use Rattle.tree_nodes.specs.declared.node.Node.{Node}
use Rattle.tree_nodes.specs.Walk.{seen, IsTree}
use Rattle.tree_nodes.specs.Place.{AreNamesIn}
use Rattle.tree_nodes.specs.Table.{Table, entry_at, named, names_in, child, held, placed}
use Rattle.tree_nodes.proofs.Chains.{value_of}
use Rattle.tree_nodes.proofs.Looking.{entry_held, held_of, object_in_is}
use Rattle.tree_nodes.proofs.Tables.{entry_held as held_entry}

module _ (m : Table) (t : Tree) (tree : IsTree (child m) (held m)) (agrees : (path : Names) → map.get t path ≡ seen (child m) (held m) path) (o : ℕ) where
  pub are_names : (names : Option (List (List ℕ × ℕ))) → names ≡ option_map names_in (entry_at m o) → IfSome names (AreNamesIn t o)
  are_names names is = go (entry_at m o) refl where
    go : (s : Option Entry) → entry_at m o ≡ s → IfSome names (AreNamesIn t o)
    go None e = subst (λ z. IfSome z (AreNamesIn t o)) (sym (is ∙ ap (option_map names_in) e)) tt
    go (Some entry) e =
        let here : AreNamesIn t o (names_in entry) =
        (entry.body.names, refl, λ name. sym (ap (option_and_then (λ x. named x name)) e) ∙ object_in_is t (child m) (held m) tree agrees o name) in
        subst (λ z. IfSome z (AreNamesIn t o)) (sym (is ∙ ap (option_map names_in) e)) here

  pub names_stand : (names : Option (List (List ℕ × ℕ))) → names ≡ option_map names_in (entry_at m o) → IsSome names ↔ IsSome (entry_of t o)
  names_stand names is = (there, here) where
    there : IsSome names → IsSome (entry_of t o)
    there some = go (entry_at m o) refl where
      go : (s : Option Entry) → entry_at m o ≡ s → IsSome (entry_of t o)
      go None e = absurd (cc (subst IsSome (is ∙ ap (option_map names_in) e) some))
      go (Some entry) e = subst IsSome (sym (entry_held t (child m) (held m) tree agrees o (placed entry) (ap (option_map placed) e)).2) refl

    here : IsSome (entry_of t o) → IsSome names
    here some =
        let e = value_of (entry_of t o) some in
        let h = held_of t (child m) (held m) tree agrees o e.0 e.1 in
        let entry = held_entry m o h.0 h.1 in
        subst IsSome (sym (is ∙ ap (option_map names_in) entry.1)) refl
