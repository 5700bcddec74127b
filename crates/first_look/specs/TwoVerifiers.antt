-- Believed.
-- Two replies in one era that show different write verifiers (RFC 1813, section 3.3.7: a server gives one verifier between two starts).
use Rattle.std.specs.Prelude.{◌≡◌, ℕ, Some}
use Rattle.nfs3_types.specs.declared.calls.NfsCall.{NfsCall}
use Rattle.nfs3_types.specs.declared.replies.Outcome.{Outcome}
use Rattle.nfs_history.specs.declared.recorded.Meaning.TheVariants as meanings
use Rattle.nfs_history.specs.declared.recorded.RecordedCall.{RecordedCall}
use Rattle.nfs_history.specs.declared.knowing.KnownCalls.{KnownCalls}
use Rattle.nfs_history.specs.Precedence.{call_at}
use Rattle.cut_check.specs.Verifier.{verifier_of}
use Rattle.decision_law.specs.Laws.{ShowsTwoVerifiers}
use Rattle.first_look.specs.declared.verifiers.Shown.{Shown}
use Rattle.first_look.specs.declared.verifiers.TwoVerifiers.{TwoVerifiers}

-- the two calls that are named are of the era that is named, and show different verifiers
abbrev pub AreTwo : KnownCalls → TwoVerifiers → Type 0
AreTwo known two = (shows : ShowsTwoVerifiers known) × (shows.n ≡ two.one) × (shows.m ≡ two.other) × (shows.recorded.era ≡ two.era)

-- ---- for the prover

-- the call shows this
pub record IsShown (recorded : RecordedCall) (number : ℕ) (shown : Shown) : Type 0 where
  pub call : NfsCall
  pub outcome : Outcome
  pub judged : recorded.meaning ≡ meanings.Judged call
  pub answer : recorded.outcome ≡ Some outcome
  pub ended : recorded.«end» ≡ Some shown.at
  pub shows : verifier_of call outcome ≡ Some shown.verifier
  pub number_is : shown.number ≡ number
  pub era_is : shown.era ≡ recorded.era

-- a call of the history shows it
abbrev pub IsShownIn : KnownCalls → Shown → Type 0
IsShownIn known shown = (recorded : RecordedCall) × (call_at known.calls shown.number ≡ Some recorded) × IsShown recorded shown.number shown
