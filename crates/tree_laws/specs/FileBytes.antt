-- For the prover, and for callers.
-- each byte of a file after a WRITE and a SETATTR with a size: RFC 1813, sections 3.3.7 and 3.3.2. A byte behind a file's
-- end is 0 here.
use Rattle.std.specs.Prelude.{◌≡◌, ℕ, ◌+◌, ◌<◌, ◌≤◌, max, List, length, slice_index, Some}
use Rattle.nfs3_types.specs.declared.calls.SetAttrArguments.{SetAttrArguments}
use Rattle.nfs3_types.specs.declared.calls.WriteArguments.{WriteArguments}
use Rattle.nfs3_types.specs.declared.calls.NfsCall.TheVariants as calls
use Rattle.nfs3_types.specs.declared.replies.Outcome.{Outcome}
use Rattle.tree_nodes.specs.Tree.{Tree}
use Rattle.tree_handles.specs.Binding.{Bindings}
use Rattle.tree_handles.specs.Live.{FileEntry, file_of}
use Rattle.file_tree.specs.Success.{next_tree}
use Rattle.tree_laws.specs.Outcomes.{IsSuccess, count_written}
use Rattle.tree_laws.specs.WellFormed.{IsWellFormed}

-- a handle names the same file in both trees, and this is what became of its bytes
pub record BytesBecome (binds : Bindings) (handle : List ℕ) (before after : Tree) (Become : List ℕ → List ℕ → Type 0) : Type 0 where
  pub old : FileEntry
  pub new : FileEntry
  pub was : file_of binds before handle ≡ Some old
  pub is : file_of binds after handle ≡ Some new
  pub same_path : new.path ≡ old.path
  pub same_object : new.object ≡ old.object
  pub same_verifier : new.file.verifier ≡ old.file.verifier
  pub bytes : Become old.file.bytes new.file.bytes

-- the first so many of these bytes stand at the offset, and every other byte is what it was; the file ends where it did, or
-- behind them
pub record AreWritten (offset count : ℕ) (sent old new : List ℕ) : Type 0 where
  pub set : (i : ℕ) → i < count → slice_index new (offset + i) ≡ slice_index sent i
  pub ahead : (i : ℕ) → i < offset → slice_index new i ≡ slice_index old i
  pub behind : (i : ℕ) → offset + count ≤ i → slice_index new i ≡ slice_index old i
  pub ends : 0 < count → length new ≡ max (length old) (offset + count)
  pub nothing : count ≡ 0 → new ≡ old

-- a WRITE sets the bytes that it is answered, or taken, to have written
abbrev pub WriteSets : Type 0
WriteSets =
    (binds : Bindings) (before after : Tree) (number : ℕ) (write : WriteArguments) (outcome : Outcome) (count : ℕ) → IsWellFormed before → count_written outcome ≡ Some count
    → next_tree binds before number (calls.Write write) outcome ≡ Some after
    → (count ≤ length write.bytes) × BytesBecome binds write.file before after (AreWritten write.offset count write.bytes)

-- a file of this size, each of whose bytes is what it was
pub record AreResized (size : ℕ) (old new : List ℕ) : Type 0 where
  pub ends : length new ≡ size
  pub ahead : (i : ℕ) → i < size → slice_index new i ≡ slice_index old i

-- a SETATTR with a size sets it
abbrev pub SetAttrSets : Type 0
SetAttrSets =
    (binds : Bindings) (before after : Tree) (number : ℕ) (call : SetAttrArguments) (outcome : Outcome) (size : ℕ) → IsWellFormed before → IsSuccess outcome
    → call.attributes.size ≡ Some size → next_tree binds before number (calls.SetAttr call) outcome ≡ Some after
    → BytesBecome binds call.object before after (AreResized size)
