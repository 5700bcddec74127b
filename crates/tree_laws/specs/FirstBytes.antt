-- For the prover, and for callers.
-- READ of a file that stood at first: RFC 1813, section 3.3.6
use Rattle.std.specs.Prelude.{◌≡◌, ℕ, ◌+◌, ◌<◌, ◌≤◌, List, ◌∷◌, ◌++◌, length, slice_get, slice_index, Some, IsSome}
use Rattle.nfs3_types.specs.declared.calls.ReadArguments.{ReadArguments}
use Rattle.nfs3_types.specs.declared.calls.NfsCall.{NfsCall}
use Rattle.nfs3_types.specs.declared.calls.NfsCall.TheVariants as calls
use Rattle.nfs3_types.specs.declared.replies.Answer.TheVariants.{Done}
use Rattle.nfs3_types.specs.declared.replies.ReadSuccess.{ReadSuccess}
use Rattle.nfs3_types.specs.declared.replies.NfsReply.TheVariants as replies
use Rattle.nfs3_types.specs.declared.replies.Outcome.{Outcome}
use Rattle.nfs3_types.specs.declared.replies.Outcome.TheVariants.{Received}
use Rattle.replay_law.specs.Run as run
use Rattle.tree_starts.specs.Start.{IsStart}
use Rattle.tree_starts.specs.declared.object.StartObject.{StartObject}
use Rattle.tree_starts.specs.declared.object.StartNode.TheVariants.{File}
use Rattle.tree_starts.specs.declared.profile.Profile.{Profile}
use Rattle.tree_handles.specs.Binding.{Bindings, object_of}
use Rattle.file_tree.specs.Setting.{next_in}
use Rattle.file_tree.specs.StartTree.{start_tree}
use Rattle.tree_laws.specs.Outcomes.{step}
use Rattle.tree_laws.specs.ReadBack.{FromOne, Gives}
use Rattle.tree_laws.specs.WritingOver.{NoneWritesOver}

-- among these calls a READ is of a file that stood at first with these bytes; it asked for bytes from this one or from ahead of it, and
-- no call ahead of it writes over this byte
pub record ReadsFirst
    (profile : Profile)
    (start : List StartObject)
    (binds : Bindings)
    (steps : List (run.TakenStep NfsCall Outcome))
    (bytes : List ℕ)
    (read : ReadArguments)
    (answer : ReadSuccess)
    (byte : ℕ) : Type 0 where
  pub ahead : List (run.TakenStep NfsCall Outcome)
  pub n : ℕ
  pub behind : List (run.TakenStep NfsCall Outcome)
  pub stand : steps ≡ ahead ++ step n (calls.Read read) (Received (replies.Read (Done answer))) ∷ behind
  pub k : ℕ
  pub o : StartObject
  pub listed : slice_get start k ≡ Some o
  pub file : o.node ≡ File bytes
  pub read_from : object_of binds read.file ≡ Some (k + 1)
  pub had : byte < length bytes
  pub was_asked : read.offset ≤ byte
  pub stays : NoneWritesOver profile (length start) binds (k + 1) byte (start_tree start) ahead

-- in a run a READ gives each byte of a starting file, unless a call ahead of it wrote over it
abbrev pub FirstBytesAreRead : Type 0
FirstBytesAreRead =
    (profile : Profile) (start : List StartObject) (binds : Bindings) (steps : List (run.TakenStep NfsCall Outcome)) (bytes : List ℕ) (read : ReadArguments)
    (answer : ReadSuccess) (byte : ℕ) → IsStart start → IsSome (run.state_after (next_in profile (length start) binds) (start_tree start) steps) → FromOne steps
    → ReadsFirst profile start binds steps bytes read answer byte → Gives read answer byte (slice_index bytes byte)
