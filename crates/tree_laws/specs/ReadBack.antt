-- For the prover, and for callers.
-- READ after WRITE: RFC 1813, sections 3.3.6 and 3.3.7
use Rattle.std.specs.Prelude.{◌≡◌, ◌≢◌, ℕ, ◌+◌, ◌-◌, ◌<◌, ◌≤◌, Bool, true, false, List, [], ◌∷◌, ◌++◌, length, take, slice_index, Option, Some, IsSome, ⊤}
use Rattle.std.specs.List.{AllByRecursion}
use Rattle.nfs3_types.specs.declared.attributes.FileAttributes.{FileAttributes}
use Rattle.nfs3_types.specs.declared.calls.WriteArguments.{WriteArguments}
use Rattle.nfs3_types.specs.declared.calls.ReadArguments.{ReadArguments}
use Rattle.nfs3_types.specs.declared.calls.NfsCall.{NfsCall}
use Rattle.nfs3_types.specs.declared.calls.NfsCall.TheVariants as calls
use Rattle.nfs3_types.specs.declared.replies.Answer.TheVariants.{Done}
use Rattle.nfs3_types.specs.declared.replies.ReadSuccess.{ReadSuccess}
use Rattle.nfs3_types.specs.declared.replies.NfsReply.TheVariants as replies
use Rattle.nfs3_types.specs.declared.replies.Outcome.{Outcome}
use Rattle.nfs3_types.specs.declared.replies.Outcome.TheVariants.{Received}
use Rattle.replay_law.specs.Run as run
use Rattle.tree_starts.specs.Start.{IsStart}
use Rattle.tree_starts.specs.declared.object.StartObject.{StartObject}
use Rattle.tree_starts.specs.declared.profile.Profile.{Profile}
use Rattle.tree_nodes.specs.Tree.{Tree}
use Rattle.tree_handles.specs.Binding.{Bindings, object_of}
use Rattle.tree_answers.specs.Look.{read_is_legal}
use Rattle.file_tree.specs.Setting.{next_in}
use Rattle.file_tree.specs.StartTree.{start_tree}
use Rattle.file_tree.specs.Success.{next_tree}
use Rattle.tree_laws.specs.Outcomes.{count_written, step}
use Rattle.tree_laws.specs.WellFormed.{IsWellFormed}
use Rattle.tree_laws.specs.WritingOver.{NoneWritesOver}

-- a READ right behind a WRITE: by the same file handle, at the same offset, of no more bytes than were written
pub record ReadsBack (binds : Bindings) (before after : Tree) (write : WriteArguments) (read : ReadArguments) : Type 0 where
  pub formed : IsWellFormed before
  pub number : ℕ
  pub outcome : Outcome
  pub wrote : next_tree binds before number (calls.Write write) outcome ≡ Some after
  pub count : ℕ
  pub counted : count_written outcome ≡ Some count
  pub same_file : read.file ≡ write.file
  pub same_offset : read.offset ≡ write.offset
  pub within : read.count ≤ count

-- an answer to it that is right has the first of the bytes that were written, and no others
abbrev pub OnlyWhatWasWritten : Type 0
OnlyWhatWasWritten =
    (binds : Bindings) (before after : Tree) (write : WriteArguments) (read : ReadArguments) (answer : ReadSuccess) → ReadsBack binds before after write read
    → read_is_legal binds after read (replies.Read (Done answer)) ≡ true → (answer.count ≤ read.count) × (answer.bytes ≡ take answer.count write.bytes)

-- and as many of them as it asks for, or fewer, are an answer that is right, with one `eof`
abbrev pub WhatWasWritten : Type 0
WhatWasWritten =
    (binds : Bindings) (before after : Tree) (write : WriteArguments) (read : ReadArguments) (attributes : Option FileAttributes) (count : ℕ)
    → ReadsBack binds before after write read → count ≤ read.count
    → (eof : Bool) × (read_is_legal binds after read (replies.Read (Done (record { attributes = attributes; count = count; eof = eof; bytes = take count write.bytes }))) ≡ true)

-- no two of these calls have one number
abbrev pub NumbersDiffer : List (run.TakenStep NfsCall Outcome) → Type 0
NumbersDiffer [] = ⊤
NumbersDiffer (one ∷ steps) = AllByRecursion (λ later. later.number ≢ one.number) steps × NumbersDiffer steps

-- no call has the number 0
abbrev pub FromOne : List (run.TakenStep NfsCall Outcome) → Type 0
FromOne = AllByRecursion (λ one. one.number ≢ 0)

-- among these calls a READ stands behind a WRITE of the same file, near or far; the WRITE wrote this byte, the READ asked for bytes
-- from there or from ahead of it, and no call in between writes over it
pub record ReadsLater
    (profile : Profile)
    (start : List StartObject)
    (binds : Bindings)
    (steps : List (run.TakenStep NfsCall Outcome))
    (write : WriteArguments)
    (read : ReadArguments)
    (answer : ReadSuccess)
    (byte : ℕ) : Type 0 where
  pub ahead : List (run.TakenStep NfsCall Outcome)
  pub m : ℕ
  pub outcome : Outcome
  pub between : List (run.TakenStep NfsCall Outcome)
  pub n : ℕ
  pub behind : List (run.TakenStep NfsCall Outcome)
  pub stand : steps ≡ ahead ++ step m (calls.Write write) outcome ∷ (between ++ step n (calls.Read read) (Received (replies.Read (Done answer))) ∷ behind)
  pub object : ℕ
  pub written_to : object_of binds write.file ≡ Some object
  pub read_from : object_of binds read.file ≡ Some object
  pub count : ℕ
  pub counted : count_written outcome ≡ Some count
  pub was_written : (write.offset ≤ byte) × (byte < write.offset + count)
  pub was_asked : read.offset ≤ byte
  pub stays : (tree : Tree)
      → run.state_after (next_in profile (length start) binds) (start_tree start) (ahead ++ step m (calls.Write write) outcome ∷ []) ≡ Some tree
      → NoneWritesOver profile (length start) binds object byte tree between

-- where the answer reaches the byte, it has this one; where it stops ahead of it, it doesn't say that the file ends there
pub record Gives (read : ReadArguments) (answer : ReadSuccess) (byte value : ℕ) : Type 0 where
  pub given : byte < read.offset + answer.count → slice_index answer.bytes (byte - read.offset) ≡ value
  pub no_end : read.offset + answer.count ≤ byte → answer.eof ≡ false

-- the byte that was written
abbrev pub GivesByte : WriteArguments → ReadArguments → ReadSuccess → ℕ → Type 0
GivesByte write read answer byte = Gives read answer byte (slice_index write.bytes (byte - write.offset))

-- so whatever stood at first, in a run whose calls have different numbers from 1 on a READ gives each byte that a WRITE wrote, unless
-- a call in between wrote over it
abbrev pub RunsReadBack : Type 0
RunsReadBack =
    (profile : Profile) (start : List StartObject) (binds : Bindings) (steps : List (run.TakenStep NfsCall Outcome)) (write : WriteArguments) (read : ReadArguments)
    (answer : ReadSuccess) (byte : ℕ) → IsStart start → IsSome (run.state_after (next_in profile (length start) binds) (start_tree start) steps) → FromOne steps
    → NumbersDiffer steps → ReadsLater profile start binds steps write read answer byte → GivesByte write read answer byte
