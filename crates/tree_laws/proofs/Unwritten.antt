-- the bytes of a file that no call writes over
use Rattle.std.proofs.Common.{◌≡◌, ℕ, ◌⊎◌, inl, inr, Bool, List, [], ◌++◌, Option, Some, None, refl, sym, ap, ◌∙◌, subst}
use Rattle.std.specs.Prelude.{IsSome}
use Rattle.std.specs.FinMap as map
use Rattle.nfs3_types.specs.declared.calls.NfsCall.{NfsCall}
use Rattle.nfs3_types.specs.declared.replies.Outcome.{Outcome}
use Rattle.file_tree.specs.Change.{Change}
use Rattle.file_tree.specs.Change.Change.{Keep, Put, Remove, Move}
use Rattle.tree_nodes.specs.declared.node.Node.{Node}
use Rattle.tree_nodes.specs.declared.node.File.{File}
use Rattle.tree_nodes.specs.declared.node.Content.{Content}
use Rattle.tree_nodes.specs.declared.node.Content.TheVariants as contents
use Rattle.tree_nodes.specs.Tree.{Names, Tree}
use Rattle.tree_nodes.specs.Moved.{moved}
use Rattle.tree_handles.specs.Binding.{Bindings}
use Rattle.file_tree.specs.Success.{changed, change_of, next_tree}
use Rattle.tree_laws.specs.LiveHandles.{path_taken}
use Rattle.tree_laws.specs.OnePath.{path_asked, is_rename}
use Rattle.tree_laws.specs.Renaming.{HasMoved}
use Rattle.tree_laws.specs.Types.{MayBecome}
use Rattle.tree_laws.specs.WellFormed.{IsWellFormed}
use Rattle.tree_laws.specs.WritingOver.{ByteStays, OtherBytesStay}
use Rattle.tree_nodes.proofs.Chains.{mapped, same_some}
use Rattle.tree_laws.proofs.Changing.{Replaces, Grows, Moves, Sets, Fits, Over, bytes_of, change_fits}
use Rattle.tree_laws.proofs.Handles.{IsFileAt, file_stands, names_object}
use Rattle.tree_laws.proofs.Keeping.{unused, left, Came, came}
use Rattle.tree_laws.proofs.Moved.{has_moved}
use Rattle.file_tree.proofs.StartStep.{is_or_isnt, put_there, get_put}

-- what may become a file is one
was_file : (content : Content) (y : File) → MayBecome content (contents.File y) → (x : File) × (content ≡ contents.File x)
was_file contents.Directory y becomes = absurd becomes
was_file (contents.File x) y becomes = (x, refl)
was_file (contents.Link _) y becomes = absurd becomes

module _ (number : ℕ) (over : ℕ → ℕ → Type 0) (tree : Tree) (formed : IsWellFormed tree) (object : ℕ) where
  -- a file of the object stood, with each byte that isn't written over
  pub record WasFile (now : File) : Type 0 where
    pub path : Names
    pub file : File
    pub stood : IsFileAt tree path object file
    pub kept : (byte : ℕ) → (over object byte → ⊥) → ByteStays file.bytes now.bytes byte

  -- or the object stood nowhere, and has the call's number
  abbrev pub From : File → Type 0
  From now = WasFile now ⊎ ((object ≡ number) × ((p : Names) (x : Node) → map.get tree p ≡ Some x → x.object ≡ object → ⊥))

  as_it_was : (p : Names) (y : File) → IsFileAt tree p object y → From y
  as_it_was p y there = inl (record { path = p; file = y; stood = there; kept = λ byte spared. record { same = refl; stands = λ h. h } })

  from_node : (k : Names) (y : File) (what : Replaces tree k (record { object = object; content = contents.File y }) ⊎ Grows tree k (record { object = object; content = contents.File y }))
      → Sets number over tree k (record { object = object; content = contents.File y }) → From y
  from_node k y (inl what) sets =
      let old = what.old in
      let was = was_file old.content y what.becomes in
      inl (record {
        path = k;
        file = was.0;
        stood = what.stood ∙ (λ i. Some (record { object = what.object i; content = was.1 i }));
        kept = λ byte spared. subst (λ content. ByteStays (bytes_of content) y.bytes byte) was.1 (sets.keeps old what.stood byte spared);
      })
  from_node k y (inr what) sets = inr (sets.made what.free, unused tree k (record { object = object; content = contents.File y }) formed what)

  from_put : (k : Names) (v : Node) (q : Names) (y : File) → (Replaces tree k v ⊎ Grows tree k v) × Sets number over tree k v → IsFileAt (map.insert tree k v) q object y → From y
  from_put k v q y what there = go (is_or_isnt q k) where
    go : (q ≡ k) ⊎ (q ≡ k → ⊥) → From y
    go (inl same) =
        let is = same_some v (record { object = object; content = contents.File y }) (sym (put_there tree k v q same) ∙ there) in
        let now = subst (λ (n : Node). (Replaces tree k n ⊎ Grows tree k n) × Sets number over tree k n) is what in
        from_node k y now.0 now.1
    go (inr other) = as_it_was q y (sym (get_put tree k q v other) ∙ there)

  from_moved : (a b : Names) (what : Moves tree a b) (moves : HasMoved a b tree (moved tree a b)) (q : Names) (y : File) → IsFileAt (moved tree a b) q object y → From y
  from_moved a b what moves q y there = go (came tree (moved tree a b) a b formed what moves q (subst IsSome (sym there) refl)) where
    go : Came tree (moved tree a b) a b formed what moves q → From y
    go (inl c) = as_it_was (a ++ c.0) y (sym c.2 ∙ there)
    go (inr c) = as_it_was q y (sym c.2 ∙ there)

  from : (renames : Bool) (taken asked : Option Names) (c : Change) (q : Names) (y : File) → Fits number over tree renames taken asked c → IsFileAt (changed tree c) q object y → From y
  from renames taken asked Keep q y fits there = as_it_was q y there
  from renames taken asked (Put k v) q y fits there = from_put k v q y (fits.1, fits.2) there
  from renames taken asked (Remove k) q y fits there = as_it_was q y (left tree k formed fits.2 q (record { object = object; content = contents.File y }) there)
  from renames taken asked (Move a b) q y fits there =
      let what = fits.2 in
      from_moved a b what (has_moved tree a b what.stood what.outside what.bare) q y there

-- where a file after a call was ahead of it
pub from_step : (binds : Bindings) (before after : Tree) (number : ℕ) (call : NfsCall) (outcome : Outcome) (object : ℕ) (q : Names) (y : File) (formed : IsWellFormed before)
    → next_tree binds before number call outcome ≡ Some after → IsFileAt after q object y → From number (Over binds before call outcome) before formed object y
from_step binds before after number call outcome object q y formed e there =
    let change = mapped (changed before) (change_of binds before number call outcome) after e in
    from number (Over binds before call outcome) before formed object (is_rename call) (path_taken binds before call) (path_asked binds before call) change.0 q y
    (change_fits binds before number call outcome change.0 change.1) (ap (λ (t : Tree). map.get t q) change.2 ∙ there)

-- one file stands at a path
bytes_at : Option Node → List ℕ
bytes_at None = []
bytes_at (Some node) = bytes_of node.content

pub same_bytes : (p q : Names) (tree : Tree) (a b : File) (object : ℕ) → IsFileAt tree p object a → IsFileAt tree q object b → p ≡ q → a.bytes ≡ b.bytes
unfolding bytes_at
same_bytes p q tree a b object at_p at_q place = ap bytes_at (sym at_p ∙ ap (map.get tree) place ∙ at_q)

pub other_bytes_stay : OtherBytesStay
other_bytes_stay binds before after number call outcome handle old new byte formed e was is spared =
    go (from_step binds before after number call outcome old.object new.path new.file formed e there) where
      stood : IsFileAt before old.path old.object old.file
      stood = file_stands binds before handle old was

      object : new.object ≡ old.object
      object = same_some new.object old.object (sym (names_object binds after handle new is) ∙ names_object binds before handle old was)

      there : IsFileAt after new.path old.object new.file
      there = subst (λ n. IsFileAt after new.path n new.file) object (file_stands binds after handle new is)

      go : From number (Over binds before call outcome) before formed old.object new.file → ByteStays old.file.bytes new.file.bytes byte
      go (inl from) =
          let place = formed.objects from.path old.path _ _ from.stood stood refl in
          subst (λ xs. ByteStays xs new.file.bytes byte) (same_bytes from.path old.path before from.file old.file old.object from.stood stood place) (from.kept byte spared)
      go (inr made) = absurd (made.1 old.path (record { object = old.object; content = contents.File old.file }) stood refl)
