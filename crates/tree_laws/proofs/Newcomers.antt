-- the objects that a call brings in
use Rattle.std.proofs.Common.{◌≡◌, ℕ, ◌⊎◌, inl, inr, Bool, true, false, cond, ◌++◌, drop, length, Option, Some, None, sym, ap, ◌∙◌, eq-eqb}
use Rattle.std.specs.Prelude.{IsSome, ◌==◌}
use Rattle.std.specs.FinMap as map
use Rattle.file_tree.specs.Change.{Change}
use Rattle.file_tree.specs.Change.Change.{Keep, Put, Remove, Move}
use Rattle.tree_nodes.specs.declared.node.Node.{Node}
use Rattle.tree_nodes.specs.Tree.{Names, Tree, entry_of}
use Rattle.tree_nodes.specs.Moved.{is_from, moved}
use Rattle.file_tree.specs.Success.{changed, change_of}
use Rattle.tree_laws.specs.OnePath.{path_asked, is_rename}
use Rattle.tree_laws.specs.LiveHandles.{path_taken}
use Rattle.tree_laws.specs.Renaming.{HasMoved}
use Rattle.tree_laws.specs.Newcomers.{OnlyItsOwnIsNew}
use Rattle.tree_nodes.proofs.Chains.{mapped, value_of, decide, differ, same_some}
use Rattle.tree_nodes.proofs.Entries.{path_total}
use Rattle.tree_nodes.proofs.Found.{some_found, found_stands, from_front, parts_of}
use Rattle.tree_laws.proofs.Changing.{Replaces, Grows, Sets, Fits, Over, change_fits}
use Rattle.tree_laws.proofs.Moved.{has_moved}
use Rattle.file_tree.proofs.StartStep.{is_or_isnt, put_there, get_put}
use Rattle.tree_handles.proofs.Standing.{own_number}

left_over : {X : Type 0} (b : Bool) (o : Option X) (x : X) → cond b None o ≡ Some x → o ≡ Some x
left_over true o x e = absurd (cc)
left_over false o x e = e

module _ (tree : Tree) (number object : ℕ) (over : ℕ → ℕ → Type 0) where
  -- it stood, or is the call's
  abbrev Known : Type 0
  Known = IsSome (entry_of tree object) ⊎ (object ≡ number)

  stood : (p : Names) (x : Node) → map.get tree p ≡ Some x → x.object ≡ object → Known
  stood p x there same = inl (some_found tree (λ e. e.1.object == object) p x there (eq-eqb x.object object same))

  behind_put : (k : Names) (v : Node) → Replaces tree k v ⊎ Grows tree k v → Sets number over tree k v
      → (p : Names) (x : Node) → map.get (map.insert tree k v) p ≡ Some x → x.object ≡ object → Known
  behind_put k v what sets p x there same = go (is_or_isnt p k) what where
    is_put : p ≡ k → v.object ≡ x.object
    is_put at = ap (λ (n : Node). n.object) (same_some v x (sym (put_there tree k v p at) ∙ there))

    go : (p ≡ k) ⊎ (p ≡ k → ⊥) → Replaces tree k v ⊎ Grows tree k v → Known
    go (inl at) (inl was) = stood k was.old was.stood (was.object ∙ is_put at ∙ same)
    go (inl at) (inr new) = inr (sym same ∙ sym (is_put at) ∙ sets.made new.free)
    go (inr other) either = stood p x (sym (get_put tree k p v other) ∙ there) same

  behind_move : (a b : Names) → HasMoved a b tree (moved tree a b) → (p : Names) (x : Node) → map.get (moved tree a b) p ≡ Some x → x.object ≡ object → Known
  behind_move a b moves p x there same = go (decide (is_from p b)) (decide (is_from p a)) where
    nothing : {o : Option Node} → o ≡ Some x → o ≡ None → ⊥
    nothing e f = cc

    go : (is_from p b ≡ true) ⊎ (is_from p b ≡ false) → (is_from p a ≡ true) ⊎ (is_from p a ≡ false) → Known
    go (inl at) either =
        let r = drop (length b) p in
        stood (a ++ r) x (sym (moves.along r) ∙ ap (map.get (moved tree a b)) (sym (parts_of p b at)) ∙ there) same
    go (inr beside) (inl from) =
        let r = drop (length a) p in
        absurd (nothing there (ap (map.get (moved tree a b)) (parts_of p a from) ∙ moves.gone r))
    go (inr beside) (inr apart) =
        stood p x (sym (moves.others p (λ r e. differ (is_from p a) (ap (λ (z : Names). is_from z a) e ∙ from_front a r) apart)
        (λ r e. differ (is_from p b) (ap (λ (z : Names). is_from z b) e ∙ from_front b r) beside)) ∙ there) same

  behind : (renames : Bool) (taken asked : Option Names) (c : Change) → Fits number over tree renames taken asked c
      → (p : Names) (x : Node) → map.get (changed tree c) p ≡ Some x → x.object ≡ object → Known
  behind renames taken asked Keep fits p x there same = stood p x there same
  behind renames taken asked (Put k v) fits p x there same = behind_put k v fits.1 fits.2 p x there same
  behind renames taken asked (Remove k) fits p x there same = stood p x (left_over _ (map.get tree p) x (sym (map.get-remove path_total tree k p) ∙ there)) same
  behind renames taken asked (Move a b) fits p x there same =
      let what = fits.2 in
      behind_move a b (has_moved tree a b what.stood what.outside what.bare) p x there same

pub only_its_own_is_new : OnlyItsOwnIsNew
only_its_own_is_new binds before after number call outcome object next stands =
    let change = mapped (changed before) (change_of binds before number call outcome) after next in
    let fits = change_fits binds before number call outcome change.0 change.1 in
    let entry = value_of (entry_of after object) stands in
    let there = found_stands after (λ e. e.1.object == object) entry.0 entry.1 in
    behind before number object (Over binds before call outcome) (is_rename call) (path_taken binds before call) (path_asked binds before call) change.0 fits
    entry.0.0 entry.0.1 (ap (λ (t : Tree). map.get t entry.0.0) change.2 ∙ there) (own_number after object entry.0 entry.1)
