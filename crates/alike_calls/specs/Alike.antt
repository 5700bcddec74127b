-- For the prover, and for callers.
-- trees that are alike but for what some files hold, and the calls that go on alike in both: RFC 1813, section 3.3, by procedure
use Rattle.std.specs.Prelude.{◌≡◌, ℕ, Bool, false, if◌then◌else◌, List, map, Option, Some, None, is_some, option_map, IfSome, ⊤}
use Rattle.std.specs.FinMap as finite
use Rattle.nfs3_types.specs.declared.calls.CreateMode.{CreateMode}
use Rattle.nfs3_types.specs.declared.calls.CreateMode.TheVariants.{Unchecked, Guarded, Exclusive}
use Rattle.nfs3_types.specs.declared.calls.NfsCall.{NfsCall}
use Rattle.nfs3_types.specs.declared.calls.NfsCall.TheVariants as calls
use Rattle.nfs3_types.specs.declared.replies.Outcome.{Outcome}
use Rattle.nfs3_types.specs.declared.replies.Outcome.TheVariants.{Received, Taken}
use Rattle.nfs3_types.specs.Procedures.{failure_in}
use Rattle.tree_nodes.specs.declared.node.Node.{Node}
use Rattle.tree_nodes.specs.declared.node.Content.{Content}
use Rattle.tree_nodes.specs.declared.node.Content.TheVariants as contents
use Rattle.tree_nodes.specs.Tree.{Names, Tree}
use Rattle.tree_handles.specs.Binding.{Bindings}
use Rattle.tree_handles.specs.Live.{live_entry}
use Rattle.tree_handles.specs.Entry.{named}
use Rattle.file_tree.specs.Change.{Change}
use Rattle.file_tree.specs.Change.Change.{Put}
use Rattle.file_tree.specs.Success.{change_of, changed, next_tree}

-- ---- a tree with its files filled

-- what an object is once it is filled: a directory and a link stay, and a file may hold other bytes, with the verifier that it had
abbrev pub IsFilling : Content → Content → Type 0
IsFilling contents.Directory other = other ≡ contents.Directory
IsFilling (contents.File file) other = (bytes : List ℕ) × (other ≡ contents.File (record { bytes = bytes; verifier = file.verifier }))
IsFilling (contents.Link target) other = other ≡ contents.Link target

pub record FillsFiles (fill : Node → Node) : Type 0 where
  pub object : (node : Node) → (fill node).object ≡ node.object
  pub content : (node : Node) → IsFilling node.content (fill node).content

-- the other tree has the same paths, and at each of them the node filled
abbrev pub Alike : (Node → Node) → Tree → Tree → Type 0
Alike fill tree other = finite.entries other ≡ map (λ e. (e.0, fill e.1)) (finite.entries tree)

-- every node of this object is left as it is
abbrev pub LeavesObject : (Node → Node) → ℕ → Type 0
LeavesObject fill object = (node : Node) → node.object ≡ object → fill node ≡ node

-- ---- calls that look at what a file holds

-- an unchecked CREATE with a size sets the size of a file that it finds
abbrev pub sets_size : CreateMode → Bool
sets_size (Unchecked attributes) = is_some attributes.size
sets_size (Guarded _) = false
sets_size (Exclusive _) = false

-- the entry whose bytes, or how many they are, a success of the call shows or changes, if there is one. Every other call looks at
-- names, kinds, objects and verifiers alone: a REMOVE of a filled file, and a RENAME of one or onto one, go on alike
abbrev pub entry_read_or_set : Bindings → Tree → NfsCall → Option (Names × Node)
entry_read_or_set binds tree (calls.GetAttr object) = live_entry binds tree object
entry_read_or_set binds tree (calls.SetAttr call) = if is_some call.attributes.size then live_entry binds tree call.object else None
entry_read_or_set binds tree (calls.Read call) = live_entry binds tree call.file
entry_read_or_set binds tree (calls.Write call) = live_entry binds tree call.file
entry_read_or_set binds tree (calls.Create call) = if sets_size call.mode then named binds tree call.place else None
entry_read_or_set binds tree _ = None

-- a failure looks at no bytes
abbrev pub entry_touched : Bindings → Tree → NfsCall → Outcome → Option (Names × Node)
entry_touched binds tree call (Received reply) = if is_some (failure_in reply) then None else entry_read_or_set binds tree call
entry_touched binds tree call (Taken count) = entry_read_or_set binds tree call

abbrev pub object_touched : Bindings → Tree → NfsCall → Outcome → Option ℕ
object_touched binds tree call outcome = option_map (λ e. e.1.object) (entry_touched binds tree call outcome)

-- no node of that object, if there is one, is filled
abbrev pub IsUntouched : (Node → Node) → Bindings → Tree → NfsCall → Outcome → Type 0
IsUntouched fill binds tree call outcome = IfSome (object_touched binds tree call outcome) (LeavesObject fill)

-- ---- the laws

-- if a call with an outcome has a next tree in one of two trees, it has one in the other too, and these two are alike
pub record GoesAlike (fill : Node → Node) (binds : Bindings) (tree other : Tree) (number : ℕ) (call : NfsCall) (outcome : Outcome) : Type 0 where
  pub in_tree : (other_after : Tree) → next_tree binds other number call outcome ≡ Some other_after
      → (after : Tree) × (next_tree binds tree number call outcome ≡ Some after) × Alike fill after other_after
  pub in_other : (after : Tree) → next_tree binds tree number call outcome ≡ Some after
      → (other_after : Tree) × (next_tree binds other number call outcome ≡ Some other_after) × Alike fill after other_after

-- a call that touches no filled object goes on alike, if an object of its number, which it may make, isn't filled either
abbrev pub CallsGoAlike : Type 0
CallsGoAlike =
    (fill : Node → Node) → FillsFiles fill → (tree other : Tree) → Alike fill tree other → (binds : Bindings) (number : ℕ) (call : NfsCall) (outcome : Outcome)
    → IsUntouched fill binds tree call outcome → LeavesObject fill number → GoesAlike fill binds tree other number call outcome

-- the object that a call touches is the same in both trees
abbrev pub TouchedIsTheSame : Type 0
TouchedIsTheSame =
    (fill : Node → Node) → FillsFiles fill → (tree other : Tree) → Alike fill tree other → (binds : Bindings) (call : NfsCall) (outcome : Outcome)
    → object_touched binds other call outcome ≡ object_touched binds tree call outcome

-- if each node of the tree is left, the other tree is the tree
abbrev pub NothingFilledIsTheSame : Type 0
NothingFilledIsTheSame =
    (fill : Node → Node) (tree other : Tree) → Alike fill tree other → ((path : Names) (node : Node) → finite.get tree path ≡ Some node → fill node ≡ node) → other ≡ tree

-- ---- for the prover: the same of single nodes, if some nodes of an object are filled and others left

-- if the entry that a call touches is left, the call makes the same change of both trees
abbrev pub ChangesAreTheSame : Type 0
ChangesAreTheSame =
    (fill : Node → Node) → FillsFiles fill → (tree other : Tree) → Alike fill tree other → (binds : Bindings) (number : ℕ) (call : NfsCall) (outcome : Outcome)
    → IfSome (entry_touched binds tree call outcome) (λ e. fill e.1 ≡ e.1) → change_of binds other number call outcome ≡ change_of binds tree number call outcome

-- a change keeps trees alike, if the node that it puts, if any, is left
abbrev pub LeavesPut : (Node → Node) → Change → Type 0
LeavesPut fill (Put path node) = fill node ≡ node
LeavesPut fill _ = ⊤

abbrev pub ChangesKeepTreesAlike : Type 0
ChangesKeepTreesAlike =
    (fill : Node → Node) (tree other : Tree) → Alike fill tree other → (change : Change) → LeavesPut fill change → Alike fill (changed tree change) (changed other change)

-- so a call goes on alike if the entry that it touches is left, and the node that it puts
abbrev pub LeftCallsGoAlike : Type 0
LeftCallsGoAlike =
    (fill : Node → Node) → FillsFiles fill → (tree other : Tree) → Alike fill tree other → (binds : Bindings) (number : ℕ) (call : NfsCall) (outcome : Outcome)
    → IfSome (entry_touched binds tree call outcome) (λ e. fill e.1 ≡ e.1) → IfSome (change_of binds tree number call outcome) (LeavesPut fill)
    → GoesAlike fill binds tree other number call outcome

-- ---- a filling: the files of each object hold bytes that are made of those that they held

abbrev pub content_with : (List ℕ → List ℕ) → Content → Content
content_with bytes contents.Directory = contents.Directory
content_with bytes (contents.File file) = contents.File (record { bytes = bytes file.bytes; verifier = file.verifier })
content_with bytes (contents.Link target) = contents.Link target

abbrev pub with_bytes : (ℕ → List ℕ → List ℕ) → Node → Node
with_bytes bytes node = record { object = node.object; content = content_with (bytes node.object) node.content }

-- it meets the premises: it leaves each object whose bytes stay
abbrev pub BytesAreFilled : Type 0
BytesAreFilled =
    (bytes : ℕ → List ℕ → List ℕ) → FillsFiles (with_bytes bytes) × ((object : ℕ) → ((held : List ℕ) → bytes object held ≡ held) → LeavesObject (with_bytes bytes) object)
