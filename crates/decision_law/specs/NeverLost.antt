-- Believed.
-- Calls that no crash takes away in any plan that is a witness, whatever handles name there (RFC 1813, section 4.7: a call that
-- modifies data is on stable storage when it is answered; sections 3.3.7 and 3.3.21: but for an UNSTABLE WRITE, which a COMMIT puts there,
-- and of which a server that may have lost it shows another verifier).
use Rattle.std.specs.Prelude.{◌≡◌, ◌⊎◌, ℕ, ◌+◌, ◌<◌, ◌≤◌, Bool, false, IsTrue, Some, None}
use Rattle.nfs3_types.specs.declared.calls.NfsCall.{NfsCall}
use Rattle.nfs3_types.specs.declared.calls.NfsCall.TheVariants as calls
use Rattle.nfs3_types.specs.declared.calls.WriteArguments.{WriteArguments}
use Rattle.nfs3_types.specs.declared.calls.CommitArguments.{CommitArguments}
use Rattle.nfs3_types.specs.declared.replies.Answer.TheVariants.{Done}
use Rattle.nfs3_types.specs.declared.replies.NfsReply.TheVariants as replies
use Rattle.nfs3_types.specs.declared.replies.WriteSuccess.{WriteSuccess}
use Rattle.nfs3_types.specs.declared.replies.CommitSuccess.{CommitSuccess}
use Rattle.nfs3_types.specs.declared.replies.Outcome.{Outcome}
use Rattle.nfs3_types.specs.declared.replies.Outcome.TheVariants.{Received}
use Rattle.nfs_history.specs.declared.recorded.Meaning.TheVariants as meanings
use Rattle.nfs_history.specs.declared.recorded.RecordedCall.{RecordedCall}
use Rattle.nfs_history.specs.declared.knowing.KnownCalls.{KnownCalls}
use Rattle.nfs_history.specs.Precedence.{call_at}
use Rattle.cut_check.specs.declared.effect.Effect.TheVariants.{Lasting}
use Rattle.cut_check.specs.Effect.{effect_of}
use Rattle.cut_check.specs.Stable.{IsAmong}
use Rattle.cut_check.specs.Verifier.{verifier_of}

-- what a success of a WRITE says, and one of a COMMIT
abbrev pub written : WriteSuccess → Outcome
written success = Received (replies.Write (Done success))

abbrev pub committed : CommitSuccess → Outcome
committed success = Received (replies.Commit (Done success))

-- what a walk may be told: calls that are never lost; and where the second call keeps the first from being lost, if it stands behind
-- it in their era
pub record Hints : Type 0 where
  pub never_lost : ℕ → Bool
  pub saves : ℕ → ℕ → Bool

-- nothing
abbrev pub no_hints : Hints
no_hints = record { never_lost = λ _. false; saves = λ _ _. false }

module _ (known : KnownCalls) where
  -- call n is this one, which was answered so, at event `at`
  pub record IsAnswered (n : ℕ) (recorded : RecordedCall) (call : NfsCall) (outcome : Outcome) (at : ℕ) : Type 0 where
    pub stands : call_at known.calls n ≡ Some recorded
    pub judged : recorded.meaning ≡ meanings.Judged call
    pub answer : recorded.outcome ≡ Some outcome
    pub ended : recorded.«end» ≡ Some at

  -- a success that is on stable storage by itself: of a change other than WRITE, or of a WRITE that was answered as synced
  pub record IsLasting (n : ℕ) (recorded : RecordedCall) : Type 0 where
    pub call : NfsCall
    pub outcome : Outcome
    pub at : ℕ
    pub answered : IsAnswered n recorded call outcome at
    pub lasting : effect_of None call outcome ≡ Lasting

  -- call n is a success of a WRITE, and call m one of a COMMIT with the same handle that reaches a byte of it
  pub record IsReached (n : ℕ) (recorded : RecordedCall) (m : ℕ) (behind : RecordedCall) : Type 0 where
    pub write : WriteArguments
    pub success : WriteSuccess
    pub at : ℕ
    pub answered : IsAnswered n recorded (calls.Write write) (written success) at
    pub commit : CommitArguments
    pub commit_success : CommitSuccess
    pub commit_at : ℕ
    pub commit_answered : IsAnswered m behind (calls.Commit commit) (committed commit_success) commit_at
    pub same_file : commit.file ≡ write.file
    pub byte : ℕ
    pub was_written : IsAmong write.offset success.count byte
    pub reached : (commit.offset ≤ byte) × ((commit.count ≡ 0) ⊎ (byte < commit.offset + commit.count))

  -- so is a WRITE, of a COMMIT that was sent behind its reply in the same era
  pub record IsCommitted (n : ℕ) (recorded : RecordedCall) : Type 0 where
    pub later : ℕ
    pub behind : RecordedCall
    pub reaches : IsReached n recorded later behind
    pub same_era : behind.era ≡ recorded.era
    pub sent_behind : reaches.at < behind.begin

  -- a success of a WRITE of at least one byte whose verifier a reply in a later era shows
  pub record IsShownLater (n : ℕ) (recorded : RecordedCall) : Type 0 where
    pub write : WriteArguments
    pub success : WriteSuccess
    pub at : ℕ
    pub answered : IsAnswered n recorded (calls.Write write) (written success) at
    pub wrote : 0 < success.count
    pub later : ℕ
    pub behind : RecordedCall
    pub call : NfsCall
    pub outcome : Outcome
    pub later_at : ℕ
    pub later_answered : IsAnswered later behind call outcome later_at
    pub later_era : recorded.era < behind.era
    pub shows : verifier_of call outcome ≡ Some success.verifier.value

  abbrev pub IsNeverLost : ℕ → RecordedCall → Type 0
  IsNeverLost n recorded = IsLasting n recorded ⊎ (IsCommitted n recorded ⊎ IsShownLater n recorded)

  -- what is told of each of these calls is so: it is of a kind above, and what saves it is a COMMIT that reaches it. Nothing need be
  -- told; the more is, the less a walk has to try
  pub record AreRight (hints : Hints) : Type 0 where
    pub never_lost : (n : ℕ) → IsTrue (hints.never_lost n) → (recorded : RecordedCall) × IsNeverLost n recorded
    pub saves : (n m : ℕ) → IsTrue (hints.saves n m) → (recorded : RecordedCall) × (behind : RecordedCall) × IsReached n recorded m behind
