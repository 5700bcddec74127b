-- For the prover, and for callers.
-- which calls write over a byte of a file, which stays under all others: RFC 1813, sections 3.3.2, 3.3.7 and 3.3.8. A byte behind
-- a file's end is 0 here.
use Rattle.std.specs.Prelude.{◌≡◌, ℕ, ◌+◌, ◌<◌, ◌≤◌, List, [], ◌∷◌, length, slice_index, Option, Some, None, option_map, ⊤}
use Rattle.nfs3_types.specs.declared.calls.CreateMode.{CreateMode}
use Rattle.nfs3_types.specs.declared.calls.CreateMode.TheVariants.{Unchecked, Guarded, Exclusive}
use Rattle.nfs3_types.specs.declared.calls.NfsCall.{NfsCall}
use Rattle.nfs3_types.specs.declared.calls.NfsCall.TheVariants as calls
use Rattle.nfs3_types.specs.declared.replies.Outcome.{Outcome}
use Rattle.replay_law.specs.Run.{TakenStep}
use Rattle.tree_starts.specs.declared.profile.Profile.{Profile}
use Rattle.tree_nodes.specs.Tree.{Tree}
use Rattle.tree_handles.specs.Binding.{Bindings, object_of}
use Rattle.tree_handles.specs.Live.{FileEntry, file_of}
use Rattle.tree_handles.specs.Entry.{named}
use Rattle.file_tree.specs.Setting.{next_in}
use Rattle.file_tree.specs.Success.{next_tree}
use Rattle.tree_laws.specs.Outcomes.{IsSuccess, count_written}
use Rattle.tree_laws.specs.WellFormed.{IsWellFormed}

-- the object whose bytes a call may set: of a WRITE or a SETATTR the one that its handle names, and of a CREATE the one that
-- stands at its name
abbrev pub object_set : Bindings → Tree → NfsCall → Option ℕ
object_set binds tree (calls.Write call) = object_of binds call.file
object_set binds tree (calls.SetAttr call) = object_of binds call.object
object_set binds tree (calls.Create call) = option_map (λ e. e.1.object) (named binds tree call.place)
object_set binds tree _ = None

-- the size that a CREATE sets of a file that stands: an unchecked one's, where it has one
abbrev pub size_over : CreateMode → Option ℕ
size_over (Unchecked attributes) = attributes.size
size_over (Guarded _) = None
size_over (Exclusive _) = None

-- the size that a call sets
abbrev pub size_set : NfsCall → Option ℕ
size_set (calls.SetAttr call) = call.attributes.size
size_set (calls.Create call) = size_over call.mode
size_set _ = None

-- the bytes that a call sets which came out so: a WRITE those that it wrote, and one that sets a size all from that size on
abbrev pub SetsByte : NfsCall → Outcome → ℕ → Type 0
SetsByte (calls.Write call) outcome byte = (count : ℕ) × (count_written outcome ≡ Some count) × (call.offset ≤ byte) × (byte < call.offset + count)
SetsByte call outcome byte = (size : ℕ) × (size_set call ≡ Some size) × (size ≤ byte) × IsSuccess outcome

-- in this tree the call writes over this byte of this object
pub record WritesOver (binds : Bindings) (tree : Tree) (object byte : ℕ) (call : NfsCall) (outcome : Outcome) : Type 0 where
  pub same_object : object_set binds tree call ≡ Some object
  pub sets : SetsByte call outcome byte

-- none of these calls does, each in the tree that those ahead of it leave, where so many objects stood at first
abbrev pub NoneWritesOver : Profile → ℕ → Bindings → ℕ → ℕ → Tree → List (TakenStep NfsCall Outcome) → Type 0
NoneWritesOver profile first binds object byte tree [] = ⊤
NoneWritesOver profile first binds object byte tree (one ∷ steps) =
    (¬ WritesOver binds tree object byte one.call one.outcome)
    × ((after : Tree) → next_in profile first binds tree one.number one.call one.outcome ≡ Some after → NoneWritesOver profile first binds object byte after steps)

-- a byte stays what it was, and isn't cut off
pub record ByteStays (old new : List ℕ) (byte : ℕ) : Type 0 where
  pub same : slice_index new byte ≡ slice_index old byte
  pub stands : byte < length old → byte < length new

-- where a handle names a file before a call and after it, each byte stays that the call doesn't write over
abbrev pub OtherBytesStay : Type 0
OtherBytesStay =
    (binds : Bindings) (before after : Tree) (number : ℕ) (call : NfsCall) (outcome : Outcome) (handle : List ℕ) (old new : FileEntry) (byte : ℕ) → IsWellFormed before
    → next_tree binds before number call outcome ≡ Some after → file_of binds before handle ≡ Some old → file_of binds after handle ≡ Some new
    → ¬ WritesOver binds before old.object byte call outcome → ByteStays old.file.bytes new.file.bytes byte
