-- fillings that are the same on what stands in a tree, and bindings that agree
use Rattle.std.proofs.Common.{◌≡◌, ℕ, Bool, true, false, cond, List, [], ◌∷◌, ◌++◌, Option, Some, None, refl, sym, ap, ◌∙◌}
use Rattle.std.proofs.lemmas.Bool.{eqb-true, ne_eqb}
use Rattle.std.specs.Prelude.{◌==◌, IsSome, is_some, option_and_then, option_map}
use Rattle.std.specs.FinMap as finite
use Rattle.nfs3_types.specs.Procedures.{failure_in}
use Rattle.nfs3_types.specs.declared.calls.DirectoryName.{DirectoryName}
use Rattle.nfs3_types.specs.declared.calls.NfsCall.{NfsCall}
use Rattle.nfs3_types.specs.declared.calls.NfsCall.TheVariants as calls
use Rattle.nfs3_types.specs.declared.calls.WriteArguments.{WriteArguments}
use Rattle.nfs3_types.specs.declared.replies.Outcome.{Outcome}
use Rattle.nfs3_types.specs.declared.replies.Outcome.TheVariants.{Received, Taken}
use Rattle.tree_nodes.specs.declared.node.Node.{Node}
use Rattle.tree_nodes.specs.declared.node.File.{File}
use Rattle.tree_nodes.specs.declared.node.Content.{Content}
use Rattle.tree_nodes.specs.declared.node.Content.TheVariants as contents
use Rattle.tree_nodes.specs.Tree.{Names, Tree, entry_of}
use Rattle.tree_nodes.proofs.Chains.{value_of}
use Rattle.tree_handles.specs.Binding.{Bindings, object_of}
use Rattle.tree_handles.specs.Live.{live_entry, as_directory}
use Rattle.tree_handles.specs.Entry.{entry_at, named}
use Rattle.tree_answers.specs.Asked.{first_handle}
use Rattle.alike_calls.specs.Alike.{Alike, sets_size, entry_read_or_set, entry_touched, object_touched, content_with, with_bytes}
use Rattle.alike_calls.specs.Writes.{written_so, with_write}
use Rattle.alike_calls.proofs.Changes.{at_paths, of_paths, nothing_filled}
use Rattle.alike_calls.proofs.Going.{bytes_filled}

-- ---- fillings

pub same_node : (fill more : Node → Node) (o : Option Node) → ((node : Node) → o ≡ Some node → fill node ≡ more node) → option_map fill o ≡ option_map more o
same_node fill more None same = refl
same_node fill more (Some node) same = ap (λ (n : Node). Some n) (same node refl)

pub same_fillings : (fill more : Node → Node) (tree other : Tree) → ((path : Names) (node : Node) → finite.get tree path ≡ Some node → fill node ≡ more node) → Alike fill tree other
    → Alike more tree other
same_fillings fill more tree other same alike = of_paths more tree other (λ path. at_paths fill tree other alike path ∙ same_node fill more (finite.get tree path) (same path))

same_content : (f g : List ℕ → List ℕ) (content : Content) → ((file : File) → content ≡ contents.File file → f file.bytes ≡ g file.bytes) → content_with f content ≡ content_with g content
same_content f g contents.Directory same = refl
same_content f g (contents.File file) same = ap (λ held. contents.File (record { bytes = held; verifier = file.verifier })) (same file refl)
same_content f g (contents.Link target) same = refl

pub same_filled : (bytes more : ℕ → List ℕ → List ℕ) (node : Node) → ((file : File) → node.content ≡ contents.File file → bytes node.object file.bytes ≡ more node.object file.bytes)
    → with_bytes bytes node ≡ with_bytes more node
same_filled bytes more node same = ap (λ content. record { object = node.object; content = content }) (same_content (bytes node.object) (more node.object) node.content same)

pub same_on_files : (bytes more : ℕ → List ℕ → List ℕ) (tree other : Tree)
    → ((path : Names) (node : Node) (file : File) → finite.get tree path ≡ Some node → node.content ≡ contents.File file → bytes node.object file.bytes ≡ more node.object file.bytes)
    → Alike (with_bytes bytes) tree other → Alike (with_bytes more) tree other
same_on_files bytes more tree other same =
    same_fillings (with_bytes bytes) (with_bytes more) tree other (λ path node is. same_filled bytes more node (λ file holds. same path node file is holds))

-- ---- where nothing is open

module _ (bytes : ℕ → List ℕ → List ℕ) (stays : (object : ℕ) (held : List ℕ) → bytes object held ≡ held) (tree : Tree) where
  left : (node : Node) → with_bytes bytes node ≡ node
  left node = (bytes_filled bytes).1 node.object (stays node.object) node refl

  left_alone : (o : Option Node) → o ≡ option_map (with_bytes bytes) o
  left_alone None = refl
  left_alone (Some node) = ap (λ (n : Node). Some n) (sym (left node))

  pub nothing_open : ((other : Tree) → Alike (with_bytes bytes) tree other → other ≡ tree) × Alike (with_bytes bytes) tree tree
  nothing_open = (
    λ other alike. nothing_filled (with_bytes bytes) tree other alike (λ path node is. left node),
    of_paths (with_bytes bytes) tree tree (λ path. left_alone (finite.get tree path)),
  )

-- ---- two objects

swapped : {X : Type 0} (p q : Bool) (u v w : X) → (p ≡ true → q ≡ true → ⊥) → cond q u (cond p v w) ≡ cond p v (cond q u w)
swapped true true u v w apart = absurd (apart refl refl)
swapped true false u v w apart = refl
swapped false true u v w apart = refl
swapped false false u v w apart = refl

pub commute : (bytes : ℕ → List ℕ → List ℕ) (a b : ℕ) → (a ≡ b → ⊥) → (x y : WriteArguments) (m n object : ℕ) (held : List ℕ)
    → with_write (with_write bytes a x m) b y n object held ≡ with_write (with_write bytes b y n) a x m object held
commute bytes a b apart x y m n object held =
    swapped (object == a) (object == b) (written_so y n held) (written_so x m held) (bytes object held) (λ e f. apart (sym (eqb-true object a e) ∙ eqb-true object b f))

pub others_stay : (bytes : ℕ → List ℕ → List ℕ) (object : ℕ) (call : WriteArguments) (count other : ℕ) → (other ≡ object → ⊥) → (held : List ℕ)
    → with_write bytes object call count other held ≡ bytes other held
others_stay bytes object call count other apart held = ap (λ b. cond b (written_so call count held) (bytes other held)) (ne_eqb other object apart)

-- ---- bindings that agree

module _ (binds plan : Bindings) (agrees : (handle : List ℕ) (object : ℕ) → object_of binds handle ≡ Some object → object_of plan handle ≡ Some object) (tree : Tree) where
  one_object : (handle : List ℕ) → IsSome (object_of binds handle) → object_of plan handle ≡ object_of binds handle
  one_object handle known = let found = value_of (object_of binds handle) known in agrees handle found.0 found.1 ∙ sym found.1

  one_entry : (handle : List ℕ) → IsSome (object_of binds handle) → live_entry plan tree handle ≡ live_entry binds tree handle
  one_entry handle known = ap (option_and_then (entry_of tree)) (one_object handle known)

  one_place : (place : DirectoryName) → IsSome (object_of binds place.directory) → named plan tree place ≡ named binds tree place
  one_place place known =
      ap (λ o. option_and_then (λ directory. option_map (λ (node : Node). (directory ++ place.name ∷ [], node)) (entry_at tree directory place.name))
      (option_and_then (λ (e : Names × Node). as_directory e.0 e.1.content) o)) (one_entry place.directory known)

  one_read_or_set : (call : NfsCall) → IsSome (object_of binds (first_handle call)) → entry_read_or_set plan tree call ≡ entry_read_or_set binds tree call
  one_read_or_set (calls.GetAttr object) known = one_entry object known
  one_read_or_set (calls.SetAttr call) known = ap (λ o. cond (is_some call.attributes.size) o None) (one_entry call.object known)
  one_read_or_set (calls.Read call) known = one_entry call.file known
  one_read_or_set (calls.Write call) known = one_entry call.file known
  one_read_or_set (calls.Create call) known = ap (λ o. cond (sets_size call.mode) o None) (one_place call.place known)
  one_read_or_set _ known = refl

  one_touched : (call : NfsCall) (outcome : Outcome) → IsSome (object_of binds (first_handle call)) → entry_touched plan tree call outcome ≡ entry_touched binds tree call outcome
  one_touched call (Received reply) known = ap (λ o. cond (is_some (failure_in reply)) None o) (one_read_or_set call known)
  one_touched call (Taken count) known = one_read_or_set call known

  pub agreed_touched : (call : NfsCall) (outcome : Outcome) → IsSome (object_of binds (first_handle call)) → object_touched plan tree call outcome ≡ object_touched binds tree call outcome
  agreed_touched call outcome known = ap (option_map (λ (e : Names × Node). e.1.object)) (one_touched call outcome known)
