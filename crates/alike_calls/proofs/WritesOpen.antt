-- a WRITE is opened in the other tree, and resolved in the first one
use Rattle.std.proofs.Common.{◌≡◌, ℕ, ◌⊎◌, inl, inr, Bool, true, false, cond, List, take, Option, Some, None, refl, sym, ap, ◌∙◌, subst, eq-eqb}
use Rattle.std.proofs.lemmas.Bool.{eqb-true}
use Rattle.std.specs.Prelude.{◌==◌, IfSome, option_and_then, option_map}
use Rattle.std.specs.FinMap as finite
use Rattle.nfs3_types.specs.declared.calls.NfsCall.TheVariants as calls
use Rattle.nfs3_types.specs.declared.calls.WriteArguments.{WriteArguments}
use Rattle.nfs3_types.specs.declared.replies.Outcome.TheVariants.{Taken}
use Rattle.tree_nodes.specs.declared.node.Node.{Node}
use Rattle.tree_nodes.specs.declared.node.File.{File}
use Rattle.tree_nodes.specs.declared.node.Content.TheVariants as contents
use Rattle.tree_nodes.specs.Files.{file_node}
use Rattle.tree_nodes.specs.Tree.{Names, Tree, entry_of}
use Rattle.tree_nodes.proofs.Chains.{mapped, same_some, value_of}
use Rattle.tree_nodes.proofs.Found.{some_found}
use Rattle.tree_stores.specs.Files.{written as overwritten}
use Rattle.tree_handles.specs.Binding.{Bindings}
use Rattle.tree_handles.specs.Live.{live_entry, as_file, file_of}
use Rattle.file_tree.specs.Change.{Change}
use Rattle.file_tree.specs.Change.Change.{Keep}
use Rattle.file_tree.specs.Written.{write_change}
use Rattle.file_tree.specs.Success.{changed, next_tree}
use Rattle.alike_calls.specs.Alike.{Alike, LeavesObject, with_bytes}
use Rattle.alike_calls.specs.Writes.{IsFree, IsCountOf, IsResolved, written_so, with_write}
use Rattle.alike_calls.proofs.Going.{bytes_filled}
use Rattle.alike_calls.proofs.Made.{same_change}
use Rattle.alike_calls.proofs.WritesSame.{same_filled, same_on_files, others_stay}
use Rattle.alike_calls.proofs.WritesPut.{IsWrite, PutsFile, lives, entry_stands, write_is, isnt_file, put_in_other, put_in_tree}

module _ (bytes : ℕ → List ℕ → List ℕ) (binds : Bindings) (tree other : Tree) (object : ℕ) (call : WriteArguments) (free : IsFree bytes binds tree object call) where
  leaves : LeavesObject (with_bytes bytes) object
  leaves = (bytes_filled bytes).1 object free.stays

  -- what the WRITE's handle names is left
  is_left : IfSome (live_entry binds tree call.file) (λ e. with_bytes bytes e.1 ≡ e.1)
  is_left = subst (λ o. IfSome o (λ (e : Names × Node). with_bytes bytes e.1 ≡ e.1)) (sym (lives binds tree object call free.named)) (go (entry_of tree object) refl) where
    go : (o : Option (Names × Node)) → entry_of tree object ≡ o → IfSome o (λ e. with_bytes bytes e.1 ≡ e.1)
    go None is = tt
    go (Some e) is = leaves e.1 (entry_stands binds tree object call free.named e is).1

  module _ (count : ℕ) where
    abbrev more : Node → Node
    more = with_bytes (with_write bytes object call count)

    of_other : (node : Node) → (node.object ≡ object → ⊥) → with_bytes bytes node ≡ more node
    of_other node apart =
        same_filled bytes (with_write bytes object call count) node
        (λ file holds. sym (others_stay bytes object call count node.object apart file.bytes))

    with_none : count ≡ 0 → (o : ℕ) (held : List ℕ) → bytes o held ≡ with_write bytes object call count o held
    with_none zero o held = go (o == object) refl where
      go : (same : Bool) → (o == object) ≡ same → bytes o held ≡ cond same (written_so call count held) (bytes o held)
      go true same =
          ap (λ o. bytes o held) (eqb-true o object same) ∙ free.stays held
          ∙ sym (ap (λ b. cond b held (overwritten held call.offset (take count call.bytes))) (eq-eqb count 0 zero))
      go false same = refl

    -- the file that the WRITE puts
    module _ (path : Names) (file : File) (stands : finite.get tree path ≡ Some (record { object = object; content = contents.File file })) where
      turned : more (record { object = object; content = contents.File file }) ≡ file_node object (written_so call count file.bytes) file.verifier
      turned = ap (λ b. file_node object (cond b (written_so call count file.bytes) (bytes object file.bytes)) file.verifier) (eq-eqb object object refl)

      left : with_bytes bytes (file_node object (written_so call count file.bytes) file.verifier) ≡ file_node object (written_so call count file.bytes) file.verifier
      left = leaves (file_node object (written_so call count file.bytes) file.verifier) refl

      rest : (at : Names) (node : Node) → finite.get tree at ≡ Some node → (at ≡ path → ⊥) → with_bytes bytes node ≡ more node
      rest at node is apart = of_other node (λ same. apart (free.numbered.once at path node (record { object = object; content = contents.File file }) is stands same))

    opens : (change : Change) → IsWrite tree object call count change → Alike (with_bytes bytes) tree other → Alike more tree (changed other change)
    opens change write alike = go write.does where
      go : ((count ≡ 0) × (change ≡ Keep)) ⊎ PutsFile tree object call count change → Alike more tree (changed other change)
      go (inl kept) =
          subst (λ (change : Change). Alike more tree (changed other change)) (sym kept.1)
          (same_on_files bytes (with_write bytes object call count) tree other (λ path node file is holds. with_none kept.0 node.object file.bytes) alike)
      go (inr puts) =
          subst (λ (change : Change). Alike more tree (changed other change)) (sym puts.is)
          (put_in_other (with_bytes bytes) more tree puts.path (record { object = object; content = contents.File puts.file })
          (file_node object (written_so call count puts.file.bytes) puts.file.verifier) puts.stands (turned puts.path puts.file puts.stands) (left puts.path puts.file puts.stands)
          (rest puts.path puts.file puts.stands) other alike)

    resolves : (change : Change) → IsWrite tree object call count change → Alike more tree other → Alike (with_bytes bytes) (changed tree change) other
    resolves change write alike = go write.does where
      go : ((count ≡ 0) × (change ≡ Keep)) ⊎ PutsFile tree object call count change → Alike (with_bytes bytes) (changed tree change) other
      go (inl kept) =
          subst (λ (change : Change). Alike (with_bytes bytes) (changed tree change) other) (sym kept.1)
          (same_on_files (with_write bytes object call count) bytes tree other (λ path node file is holds. sym (with_none kept.0 node.object file.bytes)) alike)
      go (inr puts) =
          subst (λ (change : Change). Alike (with_bytes bytes) (changed tree change) other) (sym puts.is)
          (put_in_tree (with_bytes bytes) more tree puts.path (record { object = object; content = contents.File puts.file })
          (file_node object (written_so call count puts.file.bytes) puts.file.verifier) puts.stands (turned puts.path puts.file puts.stands) (left puts.path puts.file puts.stands)
          (rest puts.path puts.file puts.stands) other alike)

    -- no file of the object stands where its handle names none
    no_file : file_of binds tree call.file ≡ None → (path : Names) (node : Node) (file : File) → finite.get tree path ≡ Some node → node.content ≡ contents.File file → node.object ≡ object → ⊥
    no_file none path node file is holds same =
        let found = value_of (entry_of tree object) (some_found tree (λ x. x.1.object == object) path node is (eq-eqb node.object object same)) in
        let at = entry_stands binds tree object call free.named found.0 found.1 in
        let one : found.0.0 ≡ path = free.numbered.once found.0.0 path found.0.1 node at.0 is (at.1 ∙ sym same) in
        let it : found.0.1 ≡ node = same_some found.0.1 node (sym at.0 ∙ ap (finite.get tree) one ∙ is) in
        let gives : file_of binds tree call.file ≡ as_file found.0.0 found.0.1.object (contents.File file) =
        ap (option_and_then (λ (e : Names × Node). as_file e.0 e.1.object e.1.content)) (lives binds tree object call free.named ∙ found.1)
        ∙ ap (as_file found.0.0 found.0.1.object) (ap (λ (n : Node). n.content) it ∙ holds) in
        some_is_none (sym gives ∙ none) where
          some_is_none : {X : Type 0} {x : X} → Some x ≡ None → ⊥
          some_is_none e = cc

    unfilled : file_of binds tree call.file ≡ None → Alike more tree other → Alike (with_bytes bytes) tree other
    unfilled none =
        same_on_files (with_write bytes object call count) bytes tree other
        (λ path node file is holds. others_stay bytes object call count node.object (no_file none path node file is holds) file.bytes)

  -- ---- the laws

  pub opened : Alike (with_bytes bytes) tree other → (number count : ℕ) (after : Tree) → next_tree binds other number (calls.Write call) (Taken (Some count)) ≡ Some after
      → Alike (with_bytes (with_write bytes object call count)) tree after × IsCountOf call count
  opened alike number count after leads =
      let found = mapped (changed other) (write_change binds other call count None) after leads in
      let same : write_change binds other call count None ≡ write_change binds tree call count None =
      same_change (with_bytes bytes) (bytes_filled bytes).0 tree other alike binds number (calls.Write call) (Taken (Some count)) is_left in
      let write = write_is binds tree object call free.named count found.0 (sym same ∙ found.1) in
      (subst (λ (t : Tree). Alike (with_bytes (with_write bytes object call count)) tree t) found.2 (opens count found.0 write alike), write.right)

  pub resolved : (number count : ℕ) → Alike (with_bytes (with_write bytes object call count)) tree other → IsResolved bytes binds tree other call number count
  resolved number count alike = record { wrote = wrote; stands_nowhere = λ right small none. unfilled count (isnt_file binds tree object call free.named count right small (nowhere none)) alike } where
    wrote : (after : Tree) → next_tree binds tree number (calls.Write call) (Taken (Some count)) ≡ Some after → Alike (with_bytes bytes) after other
    wrote after leads =
        let found = mapped (changed tree) (write_change binds tree call count None) after leads in
        let write = write_is binds tree object call free.named count found.0 found.1 in
        subst (λ (t : Tree). Alike (with_bytes bytes) t other) found.2 (resolves count found.0 write alike)

    nowhere : next_tree binds tree number (calls.Write call) (Taken (Some count)) ≡ None → write_change binds tree call count None ≡ None
    nowhere none = go (write_change binds tree call count None) none where
      go : (o : Option Change) → option_map (changed tree) o ≡ None → o ≡ None
      go None none = refl
      go (Some change) none = absurd (cc)
