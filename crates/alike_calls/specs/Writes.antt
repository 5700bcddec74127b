-- For the prover, and for callers.
-- a WRITE of which it is open how many bytes it wrote: trees that are alike but for these, RFC 1813, section 3.3.7
use Rattle.std.specs.Prelude.{◌≡◌, ℕ, ◌+◌, ◌<◌, ◌≤◌, ◌==◌, if◌then◌else◌, List, length, take, Some, None, IfSome, IsSome}
use Rattle.std.specs.FinMap as finite
use Rattle.nfs3_types.specs.Limits.{file_limit}
use Rattle.nfs3_types.specs.declared.calls.NfsCall.{NfsCall}
use Rattle.nfs3_types.specs.declared.calls.NfsCall.TheVariants as calls
use Rattle.nfs3_types.specs.declared.calls.WriteArguments.{WriteArguments}
use Rattle.nfs3_types.specs.declared.replies.Outcome.{Outcome}
use Rattle.nfs3_types.specs.declared.replies.Outcome.TheVariants.{Taken}
use Rattle.tree_nodes.specs.declared.node.Node.{Node}
use Rattle.tree_nodes.specs.declared.node.File.{File}
use Rattle.tree_nodes.specs.declared.node.Content.TheVariants as contents
use Rattle.tree_nodes.specs.Tree.{Names, Tree}
use Rattle.tree_nodes.specs.Numbered.{IsNumbered}
use Rattle.tree_stores.specs.Files.{written}
use Rattle.tree_handles.specs.Binding.{Bindings, object_of}
use Rattle.tree_handles.specs.Live.{file_of}
use Rattle.tree_answers.specs.Asked.{first_handle}
use Rattle.file_tree.specs.Success.{next_tree}
use Rattle.alike_calls.specs.Alike.{Alike, object_touched, with_bytes}

-- ---- a WRITE that is open

-- what a file holds once the WRITE wrote so many of its bytes: with none it stays, wherever the offset is
abbrev pub written_so : WriteArguments → ℕ → List ℕ → List ℕ
written_so call count held = if count == 0 then held else written held call.offset (take count call.bytes)

-- the bytes of each object, and for this one what it holds once the WRITE wrote so many
abbrev pub with_write : (ℕ → List ℕ → List ℕ) → ℕ → WriteArguments → ℕ → ℕ → List ℕ → List ℕ
with_write bytes object call count other held = if other == object then written_so call count held else bytes other held

-- the WRITE's handle names this object, of which nothing is filled yet
pub record IsFree (bytes : ℕ → List ℕ → List ℕ) (binds : Bindings) (tree : Tree) (object : ℕ) (call : WriteArguments) : Type 0 where
  pub stays : (held : List ℕ) → bytes object held ≡ held
  pub named : object_of binds call.file ≡ Some object
  pub numbered : IsNumbered tree

-- a count that the WRITE may have answered, where the file wasn't too large before
pub record IsCountOf (call : WriteArguments) (count : ℕ) : Type 0 where
  pub asked : count ≤ call.count
  pub given : count ≤ length call.bytes
  pub within : 0 < count → call.offset + count ≤ file_limit

-- the file that a handle names, if it names one, isn't too large
abbrev pub FileFits : Bindings → Tree → List ℕ → Type 0
FileFits binds tree handle = IfSome (file_of binds tree handle) (λ entry. length entry.file.bytes ≤ file_limit)

-- ---- the laws

-- a WRITE in the other tree alone: the trees are alike but for what it wrote, too
abbrev pub WritesAreOpened : Type 0
WritesAreOpened =
    (bytes : ℕ → List ℕ → List ℕ) (binds : Bindings) (tree other : Tree) (object : ℕ) (call : WriteArguments) → IsFree bytes binds tree object call → Alike (with_bytes bytes) tree other
    → (number count : ℕ) (after : Tree) → next_tree binds other number (calls.Write call) (Taken (Some count)) ≡ Some after
    → Alike (with_bytes (with_write bytes object call count)) tree after × IsCountOf call count

-- once the WRITE is of the first tree too, what it wrote is no longer filled. Where it has no next tree there, the object is no file that
-- stands, so nothing of it was filled
pub record IsResolved (bytes : ℕ → List ℕ → List ℕ) (binds : Bindings) (tree other : Tree) (call : WriteArguments) (number count : ℕ) : Type 0 where
  pub wrote : (resolved : Tree) → next_tree binds tree number (calls.Write call) (Taken (Some count)) ≡ Some resolved → Alike (with_bytes bytes) resolved other
  pub stands_nowhere : IsCountOf call count → FileFits binds tree call.file → next_tree binds tree number (calls.Write call) (Taken (Some count)) ≡ None → Alike (with_bytes bytes) tree other

abbrev pub WritesAreResolved : Type 0
WritesAreResolved =
    (bytes : ℕ → List ℕ → List ℕ) (binds : Bindings) (tree other : Tree) (object : ℕ) (call : WriteArguments) (number count : ℕ) → IsFree bytes binds tree object call
    → Alike (with_bytes (with_write bytes object call count)) tree other → IsResolved bytes binds tree other call number count

-- the file of any handle isn't too large, if no file of the tree is
abbrev pub EachFileFits : Type 0
EachFileFits =
    (binds : Bindings) (tree : Tree)
    → ((path : Names) (node : Node) (file : File) → finite.get tree path ≡ Some node → node.content ≡ contents.File file → length file.bytes ≤ file_limit)
    → (handle : List ℕ) → FileFits binds tree handle

-- two WRITEs of two objects may be opened in either order
abbrev pub WritesCommute : Type 0
WritesCommute =
    (bytes : ℕ → List ℕ → List ℕ) (a b : ℕ) → (a ≡ b → ⊥) → (x y : WriteArguments) (m n object : ℕ) (held : List ℕ)
    → with_write (with_write bytes a x m) b y n object held ≡ with_write (with_write bytes b y n) a x m object held

-- a WRITE leaves what is open on other objects, so one of another object may be opened beside it
abbrev pub WritesLeaveOthers : Type 0
WritesLeaveOthers =
    (bytes : ℕ → List ℕ → List ℕ) (object : ℕ) (call : WriteArguments) (count other : ℕ) → (other ≡ object → ⊥) → (held : List ℕ) → with_write bytes object call count other held ≡ bytes other held

-- only what is filled of the nodes of the tree counts
abbrev pub SameFillingsAreAlike : Type 0
SameFillingsAreAlike =
    (fill more : Node → Node) (tree other : Tree) → ((path : Names) (node : Node) → finite.get tree path ≡ Some node → fill node ≡ more node) → Alike fill tree other → Alike more tree other

-- only the bytes of the files of the tree count
abbrev pub SameBytesAreAlike : Type 0
SameBytesAreAlike =
    (bytes more : ℕ → List ℕ → List ℕ) (tree other : Tree)
    → ((path : Names) (node : Node) (file : File) → finite.get tree path ≡ Some node → node.content ≡ contents.File file → bytes node.object file.bytes ≡ more node.object file.bytes)
    → Alike (with_bytes bytes) tree other → Alike (with_bytes more) tree other

-- where no object is filled, the other tree is the tree
abbrev pub NothingOpenIsTheSame : Type 0
NothingOpenIsTheSame =
    (bytes : ℕ → List ℕ → List ℕ) → ((object : ℕ) (held : List ℕ) → bytes object held ≡ held) → (tree : Tree)
    → ((other : Tree) → Alike (with_bytes bytes) tree other → other ≡ tree) × Alike (with_bytes bytes) tree tree

-- bindings that agree with these give the same object that a call touches, if its first handle is bound: a RENAME, which has a second one,
-- touches none
abbrev pub TouchedByAgreedHandles : Type 0
TouchedByAgreedHandles =
    (binds plan : Bindings) → ((handle : List ℕ) (object : ℕ) → object_of binds handle ≡ Some object → object_of plan handle ≡ Some object)
    → (tree : Tree) (call : NfsCall) (outcome : Outcome) → IsSome (object_of binds (first_handle call)) → object_touched plan tree call outcome ≡ object_touched binds tree call outcome
