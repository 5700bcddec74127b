-- For the prover.
-- Which calls a walk is told to be lost in no crash (RFC 1813, section 4.7: a change is on stable storage when it is answered; sections
-- 3.3.7 and 3.3.21: but for an UNSTABLE WRITE, which a COMMIT puts there, and of which a server that may have lost it shows another
-- verifier).
use Rattle.std.specs.Prelude.{◌≡◌, ◌⊎◌, ℕ, ◌+◌, ◌<◌, ◌≤◌, IsTrue, Bool, List, Some, None}
use Rattle.nfs3_types.specs.declared.calls.NfsCall.{NfsCall}
use Rattle.nfs3_types.specs.declared.calls.NfsCall.TheVariants as calls
use Rattle.nfs3_types.specs.declared.calls.WriteArguments.{WriteArguments}
use Rattle.nfs3_types.specs.declared.calls.CommitArguments.{CommitArguments}
use Rattle.nfs3_types.specs.declared.replies.WriteSuccess.{WriteSuccess}
use Rattle.nfs3_types.specs.declared.replies.CommitSuccess.{CommitSuccess}
use Rattle.nfs3_types.specs.declared.replies.Outcome.{Outcome}
use Rattle.nfs_history.specs.declared.recorded.Meaning.TheVariants as meanings
use Rattle.nfs_history.specs.declared.recorded.RecordedCall.{RecordedCall}
use Rattle.nfs_history.specs.declared.knowing.KnownCalls.{KnownCalls}
use Rattle.nfs_history.specs.Precedence.{call_at}
use Rattle.cut_check.specs.declared.effect.Effect.TheVariants.{Lasting}
use Rattle.cut_check.specs.Effect.{effect_of}
use Rattle.cut_check.specs.Stable.{IsAmong}
use Rattle.cut_check.specs.Verifier.{verifier_of}
use Rattle.decision_walk.specs.decision_law_specs.NeverLost.{IsNeverLost, written, committed}
use Rattle.decision_walk.specs.Standing.{is_marked}

-- the call succeeded, and is on stable storage by itself
pub record Lasts (recorded : RecordedCall) : Type 0 where
  pub call : NfsCall
  pub outcome : Outcome
  pub at : ℕ
  pub judged : recorded.meaning ≡ meanings.Judged call
  pub answer : recorded.outcome ≡ Some outcome
  pub ended : recorded.«end» ≡ Some at
  pub lasting : effect_of None call outcome ≡ Lasting

-- the call is this WRITE, which succeeded so, at an event
pub record IsWrite (recorded : RecordedCall) (write : WriteArguments) (success : WriteSuccess) (at : ℕ) : Type 0 where
  pub judged : recorded.meaning ≡ meanings.Judged (calls.Write write)
  pub answer : recorded.outcome ≡ Some (written success)
  pub ended : recorded.«end» ≡ Some at

-- the call is this COMMIT, which succeeded so, at an event
pub record IsCommit (recorded : RecordedCall) (commit : CommitArguments) (success : CommitSuccess) (at : ℕ) : Type 0 where
  pub judged : recorded.meaning ≡ meanings.Judged (calls.Commit commit)
  pub answer : recorded.outcome ≡ Some (committed success)
  pub ended : recorded.«end» ≡ Some at

-- the WRITE of this many bytes wrote the byte, and the COMMIT reaches it
abbrev pub IsReachedAt : CommitArguments → WriteArguments → ℕ → ℕ → Type 0
IsReachedAt commit write count byte = IsAmong write.offset count byte × ((commit.offset ≤ byte) × ((commit.count ≡ 0) ⊎ (byte < commit.offset + commit.count)))

-- the second call is a COMMIT that reaches a byte of the first, a WRITE, and was sent after its reply in the same era
pub record CommitsIt (recorded later : RecordedCall) : Type 0 where
  pub write : WriteArguments
  pub success : WriteSuccess
  pub at : ℕ
  pub wrote : IsWrite recorded write success at
  pub commit : CommitArguments
  pub commit_success : CommitSuccess
  pub commit_at : ℕ
  pub committed_so : IsCommit later commit commit_success commit_at
  pub same_file : commit.file ≡ write.file
  pub byte : ℕ
  pub reached : IsReachedAt commit write success.count byte
  pub same_era : later.era ≡ recorded.era
  pub sent_behind : at < later.begin

-- the first call is a WRITE of at least one byte whose verifier the reply to the second shows, in a later era
pub record ShowsIt (recorded later : RecordedCall) : Type 0 where
  pub write : WriteArguments
  pub success : WriteSuccess
  pub at : ℕ
  pub wrote : IsWrite recorded write success at
  pub some : 0 < success.count
  pub call : NfsCall
  pub outcome : Outcome
  pub later_at : ℕ
  pub judged : later.meaning ≡ meanings.Judged call
  pub answer : later.outcome ≡ Some outcome
  pub ended : later.«end» ≡ Some later_at
  pub later_era : recorded.era < later.era
  pub shows : verifier_of call outcome ≡ Some success.verifier.value

-- a call of these keeps the WRITE from being lost
abbrev pub IsSaved : List RecordedCall → RecordedCall → Type 0
IsSaved known recorded = (number : ℕ) × ((later : RecordedCall) × ((call_at known number ≡ Some later) × (CommitsIt recorded later ⊎ ShowsIt recorded later)))

abbrev pub IsKept : List RecordedCall → RecordedCall → Type 0
IsKept known recorded = Lasts recorded ⊎ IsSaved known recorded

-- each marked call is lost in no crash
abbrev pub AreNeverLost : KnownCalls → List Bool → Type 0
AreNeverLost known marks = (n : ℕ) → IsTrue (is_marked marks n) → (recorded : RecordedCall) × IsNeverLost known n recorded
