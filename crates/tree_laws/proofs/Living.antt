-- live handles stay live
use Rattle.std.proofs.Common.{◌≡◌, ℕ, ◌⊎◌, inl, inr, Bool, true, false, List, [], ◌∷◌, ◌++◌, drop, length, Option, Some, None, refl, sym, ap, ◌∙◌, subst, eq-eqb, append-nil}
use Rattle.std.specs.Prelude.{IsSome, ◌==◌, option_and_then}
use Rattle.std.specs.FinMap as map
use Rattle.file_tree.specs.Change.{Change}
use Rattle.file_tree.specs.Change.Change.{Keep, Put, Remove, Move}
use Rattle.tree_nodes.specs.declared.node.Node.{Node}
use Rattle.tree_nodes.specs.Tree.{Names, Tree, entry_of}
use Rattle.tree_nodes.specs.Moved.{is_from, moved}
use Rattle.tree_handles.specs.Binding.{Bindings, object_of}
use Rattle.tree_handles.specs.Live.{live_entry}
use Rattle.file_tree.specs.Success.{changed, change_of}
use Rattle.tree_laws.specs.OnePath.{path_asked, is_rename}
use Rattle.tree_laws.specs.LiveHandles.{path_taken, HandlesLast}
use Rattle.tree_laws.specs.Renaming.{HasMoved}
use Rattle.tree_nodes.proofs.Chains.{chained, mapped, value_of, absent, decide, differ}
use Rattle.tree_laws.proofs.Changing.{Replaces, Grows, Moves, Fits, Over, change_fits}
use Rattle.tree_nodes.proofs.Found.{some_found, from_front, parts_of, bare_below}
use Rattle.tree_laws.proofs.Handles.{live_stands}
use Rattle.tree_laws.proofs.Moved.{has_moved}
use Rattle.tree_laws.proofs.Staying.{get_left}
use Rattle.file_tree.proofs.StartStep.{is_or_isnt, put_there, get_put}
use Rattle.tree_handles.proofs.Standing.{own_number}

-- a node of this object stands somewhere
record Stands (tree : Tree) (object : ℕ) : Type 0 where
  path : Names
  node : Node
  there : map.get tree path ≡ Some node
  same : node.object ≡ object

module _ (tree : Tree) (p : Names) (x : Node) (there : map.get tree p ≡ Some x) where
  put_on : (k : Names) (v : Node) → Replaces tree k v ⊎ Grows tree k v → Stands (map.insert tree k v) x.object
  put_on k v what = go (is_or_isnt p k) what where
    go : (p ≡ k) ⊎ (p ≡ k → ⊥) → Replaces tree k v ⊎ Grows tree k v → Stands (map.insert tree k v) x.object
    go (inl same) (inl old) = record {
      path = p;
      node = v;
      there = put_there tree k v p same;
      same = sym old.object ∙ ap (λ (o : Option Node). object_or o) (sym old.stood ∙ ap (map.get tree) (sym same) ∙ there);
    } where
      object_or : Option Node → ℕ
      object_or None = 0
      object_or (Some n) = n.object
    go (inl same) (inr new) = absurd (absent _ new.free (subst IsSome (ap (map.get tree) same) (subst IsSome (sym there) refl)))
    go (inr other) what = record { path = p; node = x; there = get_put tree k p v other ∙ there; same = refl }

  moved_on : (a b : Names) → Moves tree a b → HasMoved a b tree (moved tree a b) → (p ≡ b → ⊥) → Stands (moved tree a b) x.object
  moved_on a b what moves other = go (decide (is_from p a)) (decide (is_from p b)) where
    go : (is_from p a ≡ true) ⊎ (is_from p a ≡ false) → (is_from p b ≡ true) ⊎ (is_from p b ≡ false) → Stands (moved tree a b) x.object
    go (inl from) either =
        let r = drop (length a) p in
        record { path = b ++ r; node = x; there = moves.along r ∙ ap (map.get tree) (sym (parts_of p a from)) ∙ there; same = refl }
    go (inr apart) (inl from) = absurd (below (drop (length b) p) (parts_of p b from)) where
      below : (r : Names) → p ≡ b ++ r → ⊥
      below [] e = other (e ∙ append-nil b)
      below (n ∷ r) e = absent _ (bare_below tree b what.bare n r) (subst (λ (z : Names). IsSome (map.get tree z)) e (subst IsSome (sym there) refl))
    go (inr apart) (inr beside) = record {
      path = p;
      node = x;
      there = moves.others p (λ r e. differ (is_from p a) (ap (λ (z : Names). is_from z a) e ∙ from_front a r) apart)
          (λ r e. differ (is_from p b) (ap (λ (z : Names). is_from z b) e ∙ from_front b r) beside) ∙ there;
      same = refl;
    }

  on : (number : ℕ) (over : ℕ → ℕ → Type 0) (renames : Bool) (taken asked : Option Names) (c : Change) → Fits number over tree renames taken asked c → (taken ≡ Some p → ⊥) → Stands (changed tree c) x.object
  on number over renames taken asked Keep fits kept = record { path = p; node = x; there = there; same = refl }
  on number over renames taken asked (Put k v) fits kept = put_on k v fits.1
  on number over renames taken asked (Remove k) fits kept = record { path = p; node = x; there = get_left tree k p (λ same. kept (fits.1 ∙ ap Some (sym same))) ∙ there; same = refl }
  on number over renames taken asked (Move a b) fits kept =
      let what = fits.2 in
      moved_on a b what (has_moved tree a b what.stood what.outside what.bare) (λ same. kept (fits.1 ∙ ap Some (sym same)))

lives : (binds : Bindings) (tree : Tree) (handle : List ℕ) (object : ℕ) → object_of binds handle ≡ Some object → Stands tree object
    → (now : Names × Node) × (live_entry binds tree handle ≡ Some now) × (now.1.object ≡ object)
lives binds tree handle object bound s =
    let found = value_of _ (some_found tree (λ e. e.1.object == object) s.path s.node s.there (eq-eqb s.node.object object s.same)) in
    (found.0, ap (option_and_then (entry_of tree)) bound ∙ found.1, own_number tree object found.0 found.1)

pub handles_last : HandlesLast
handles_last binds before after number call outcome handle e formed next live kept =
    let change = mapped (changed before) (change_of binds before number call outcome) after next in
    let fits = change_fits binds before number call outcome change.0 change.1 in
    let found = chained (entry_of before) (object_of binds handle) e live in
    let object : e.1.object ≡ found.0 = own_number before found.0 e found.2 in
    let stands = on before e.0 e.1 (live_stands binds before handle e live) number (Over binds before call outcome) (is_rename call) (path_taken binds before call) (path_asked binds before call) change.0 fits kept in
    lives binds after handle e.1.object (found.1 ∙ ap Some (sym object)) (subst (λ (t : Tree). Stands t e.1.object) change.2 stands)
