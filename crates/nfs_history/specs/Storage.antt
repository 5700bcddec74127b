-- For the prover, and for callers.
-- What a history says of a WRITE or a COMMIT without its bytes: what the code's functions say to the prover.
use Rattle.std.specs.Prelude.{ℕ, Bool, false, List, Option, Some, None, option_map, length}
use Rattle.nfs3_types.specs.declared.calls.NfsCall.TheVariants as calls
use Rattle.nfs3_types.specs.declared.calls.StableHow.{StableHow}
use Rattle.nfs3_types.specs.declared.calls.WriteArguments.{WriteArguments}
use Rattle.nfs3_types.specs.declared.calls.CommitArguments.{CommitArguments}
use Rattle.nfs3_types.specs.declared.replies.WriteSuccess.{WriteSuccess}
use Rattle.nfs3_types.specs.declared.replies.CommitSuccess.{CommitSuccess}
use Rattle.nfs3_types.specs.declared.replies.Outcome.{Outcome}
use Rattle.nfs_history.specs.declared.recorded.Meaning.{Meaning}
use Rattle.nfs_history.specs.declared.recorded.Meaning.TheVariants as meanings
use Rattle.nfs_history.specs.declared.recorded.RecordedCall.{RecordedCall}
use Rattle.nfs_history.specs.Success.{write_success, commit_success, succeeded}
use Rattle.nfs_history.specs.declared.storage.StorageCall.{StorageCall}

-- the handle, where the bytes begin, how many, of a WRITE at which level, and the write verifier
pub record StorageValue : Type 0 where
  pub file : List ℕ
  pub offset : ℕ
  pub count : ℕ
  pub level : Option StableHow
  pub verifier : ℕ

abbrev pub storage_value : StorageCall → StorageValue
storage_value s = record { file = s.file.now; offset = s.offset; count = s.count; level = s.level; verifier = s.verifier }

-- of a WRITE the bytes that its reply counts
abbrev pub write_storage : WriteArguments → WriteSuccess → StorageValue
write_storage a success = record { file = a.file; offset = a.offset; count = success.count; level = Some success.level; verifier = success.verifier.value }

-- of a COMMIT those that it asked for
abbrev pub commit_storage : CommitArguments → CommitSuccess → StorageValue
commit_storage a success = record { file = a.file; offset = a.offset; count = a.count; level = None; verifier = success.verifier.value }

abbrev pub storage_as : Meaning → Option Outcome → Option StorageValue
storage_as (meanings.Judged (calls.Write a)) (Some outcome) = option_map (write_storage a) (write_success outcome)
storage_as (meanings.Judged (calls.Commit a)) (Some outcome) = option_map (commit_storage a) (commit_success outcome)
storage_as meaning outcome = None

abbrev pub storage_in : RecordedCall → Option StorageValue
storage_in call = storage_as call.meaning call.outcome

-- how many bytes a WRITE brought
abbrev pub brought_as : Meaning → Option ℕ
brought_as (meanings.Judged (calls.Write a)) = Some (length a.bytes)
brought_as meaning = None

abbrev pub brought_in : RecordedCall → Option ℕ
brought_in call = brought_as call.meaning

abbrev pub has_succeeded_as : Meaning → Option Outcome → Bool
has_succeeded_as (meanings.Judged call) (Some outcome) = succeeded call outcome
has_succeeded_as meaning outcome = false

-- a judged call that was answered by a success
abbrev pub has_succeeded : RecordedCall → Bool
has_succeeded call = has_succeeded_as call.meaning call.outcome
