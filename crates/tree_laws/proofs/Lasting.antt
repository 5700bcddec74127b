-- what of an object lasts
use Rattle.std.proofs.Common.{◌≡◌, ℕ, ◌⊎◌, inl, inr, Bool, ◌++◌, Option, Some, refl, sym, ap, ◌∙◌, subst}
use Rattle.std.specs.Prelude.{IsSome}
use Rattle.std.specs.FinMap as map
use Rattle.file_tree.specs.Change.{Change}
use Rattle.file_tree.specs.Change.Change.{Keep, Put, Remove, Move}
use Rattle.tree_nodes.specs.declared.node.Node.{Node}
use Rattle.tree_nodes.specs.declared.node.Content.{Content}
use Rattle.tree_nodes.specs.declared.node.Content.TheVariants as contents
use Rattle.tree_nodes.specs.Tree.{Names, Tree}
use Rattle.tree_nodes.specs.Moved.{moved}
use Rattle.file_tree.specs.Success.{changed, change_of}
use Rattle.tree_laws.specs.LiveHandles.{path_taken}
use Rattle.tree_laws.specs.OnePath.{path_asked, is_rename}
use Rattle.tree_laws.specs.Renaming.{HasMoved}
use Rattle.tree_laws.specs.Types.{MayBecome, ObjectsLast}
use Rattle.tree_laws.specs.WellFormed.{IsWellFormed}
use Rattle.tree_nodes.proofs.Chains.{mapped, same_some}
use Rattle.tree_laws.proofs.Changing.{Replaces, Grows, Moves, Fits, Over, change_fits}
use Rattle.tree_laws.proofs.Keeping.{unused, left, Came, came}
use Rattle.tree_laws.proofs.Moved.{has_moved}
use Rattle.file_tree.proofs.StartStep.{is_or_isnt, put_there, get_put}

stays_so : (content : Content) → MayBecome content content
stays_so contents.Directory = tt
stays_so (contents.File _) = refl
stays_so (contents.Link _) = refl

-- what a node was, or that its object is none that stood
abbrev Was : Tree → Node → Type 0
Was tree y = ((p : Names) × (x : Node) × (map.get tree p ≡ Some x) × (x.object ≡ y.object) × MayBecome x.content y.content)
    ⊎ ((p : Names) (x : Node) → map.get tree p ≡ Some x → x.object ≡ y.object → ⊥)

it_was : (tree : Tree) (p : Names) (y : Node) → map.get tree p ≡ Some y → Was tree y
it_was tree p y there = inl (p, y, there, refl, stays_so y.content)

module _ (tree : Tree) (formed : IsWellFormed tree) where
  was_put : (k : Names) (v : Node) (q : Names) (y : Node) → Replaces tree k v ⊎ Grows tree k v → map.get (map.insert tree k v) q ≡ Some y → Was tree y
  was_put k v q y what there = go (is_or_isnt q k) where
    at_it : Replaces tree k v ⊎ Grows tree k v → Was tree v
    at_it (inl old) = inl (k, old.old, old.stood, old.object, old.becomes)
    at_it (inr new) = inr (unused tree k v formed new)

    go : (q ≡ k) ⊎ (q ≡ k → ⊥) → Was tree y
    go (inl same) = subst (Was tree) (same_some v y (sym (put_there tree k v q same) ∙ there)) (at_it what)
    go (inr other) = it_was tree q y (sym (get_put tree k q v other) ∙ there)

  was_moved : (a b : Names) (what : Moves tree a b) (moves : HasMoved a b tree (moved tree a b)) (q : Names) (y : Node) → map.get (moved tree a b) q ≡ Some y → Was tree y
  was_moved a b what moves q y there = go (came tree (moved tree a b) a b formed what moves q (subst IsSome (sym there) refl)) where
    go : Came tree (moved tree a b) a b formed what moves q → Was tree y
    go (inl c) = it_was tree (a ++ c.0) y (sym c.2 ∙ there)
    go (inr c) = it_was tree q y (sym c.2 ∙ there)

  was : (number : ℕ) (over : ℕ → ℕ → Type 0) (renames : Bool) (taken asked : Option Names) (c : Change) (q : Names) (y : Node) → Fits number over tree renames taken asked c → map.get (changed tree c) q ≡ Some y → Was tree y
  was number over renames taken asked Keep q y fits there = it_was tree q y there
  was number over renames taken asked (Put k v) q y fits there = was_put k v q y fits.1 there
  was number over renames taken asked (Remove k) q y fits there = it_was tree q y (left tree k formed fits.2 q y there)
  was number over renames taken asked (Move a b) q y fits there =
      let what = fits.2 in
      was_moved a b what (has_moved tree a b what.stood what.outside what.bare) q y there

  lasts : (p : Names) (x y : Node) → map.get tree p ≡ Some x → x.object ≡ y.object → Was tree y → MayBecome x.content y.content
  lasts p x y there same (inl w) =
      let place = formed.objects w.0 p w.1 x w.2 there (w.3 ∙ sym same) in
      subst (λ (n : Node). MayBecome n.content y.content) (same_some w.1 x (sym w.2 ∙ ap (map.get tree) place ∙ there)) w.4
  lasts p x y there same (inr none) = absurd (none p x there same)

pub objects_last : ObjectsLast
objects_last binds before after number call outcome p q x y formed e at_p at_q same =
    let change = mapped (changed before) (change_of binds before number call outcome) after e in
    lasts before formed p x y at_p same
    (was before formed number (Over binds before call outcome) (is_rename call) (path_taken binds before call) (path_asked binds before call) change.0 q y (change_fits binds before number call outcome change.0 change.1)
    (ap (λ (t : Tree). map.get t q) change.2 ∙ at_q))
