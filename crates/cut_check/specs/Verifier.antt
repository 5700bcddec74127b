-- Believed.
-- The write verifiers of a plan's eras (RFC 1813, section 3.3.7: a server gives one verifier in all its WRITE and COMMIT replies
-- between two starts, and another one once it may have lost bytes that it had not yet put on stable storage).
use Rattle.std.specs.Prelude.{◌≡◌, ◌≢◌, ℕ, ◌<◌, nat_lt, Bool, false, IsTrue, List, drop, Option, Some, None, option_map, option_and_then, Contains}
use Rattle.std.specs.List.{list_any}
use Rattle.std.specs.Option.{option_map_or}
use Rattle.nfs3_types.specs.declared.calls.NfsCall.{NfsCall}
use Rattle.nfs3_types.specs.declared.calls.NfsCall.TheVariants as calls
use Rattle.nfs3_types.specs.declared.replies.Outcome.{Outcome}
use Rattle.nfs_history.specs.declared.recorded.RecordedCall.{RecordedCall}
use Rattle.certificate.specs.declared.plan.Place.{Place}
use Rattle.certificate.specs.declared.plan.EraPlan.{EraPlan}
use Rattle.certificate.specs.Plan.{cut_of}
use Rattle.nfs_history.specs.Success.{write_success, commit_success}
use Rattle.cut_check.specs.Places.{answered_at, era_at}

-- the verifier that the reply to a call shows: of a WRITE or a COMMIT that succeeded
abbrev pub verifier_of : NfsCall → Outcome → Option ℕ
verifier_of (calls.Write a) outcome = option_map (λ success. success.verifier.value) (write_success outcome)
verifier_of (calls.Commit a) outcome = option_map (λ success. success.verifier.value) (commit_success outcome)
verifier_of call outcome = None

-- a WRITE that succeeded, of at least one byte
abbrev pub writes_bytes : NfsCall → Outcome → Bool
writes_bytes (calls.Write a) outcome = option_map_or (λ success. nat_lt 0 success.count) (write_success outcome) false
writes_bytes call outcome = false

abbrev pub verifier_at : List RecordedCall → Place → Option ℕ
verifier_at calls place = option_and_then (λ a. verifier_of a.0 a.1) (answered_at calls place)

abbrev pub writes_bytes_at : List RecordedCall → Place → Bool
writes_bytes_at calls place = option_map_or (λ a. writes_bytes a.0 a.1) (answered_at calls place) false

-- one of these places shows the verifier, kept or lost
abbrev pub Shows : List RecordedCall → List Place → ℕ → Type 0
Shows calls places verifier = (place : Place) × Contains places place × (verifier_at calls place ≡ Some verifier)

-- two verifiers
abbrev pub ShowsTwo : List RecordedCall → List Place → Type 0
ShowsTwo calls places = (one other : ℕ) × Shows calls places one × Shows calls places other × (one ≢ other)

-- one of the places past the cut is a WRITE that was answered with at least one byte
abbrev pub loses_write : List RecordedCall → EraPlan → Bool
loses_write calls era = list_any (writes_bytes_at calls) (drop (cut_of era) era.places)

pub record VerifiersAgree (calls : List RecordedCall) (eras : List EraPlan) : Type 0 where
  -- an era shows at most one verifier
  pub within : (e one other : ℕ) (era : EraPlan) → era_at eras e ≡ Some era → Shows calls era.places one → Shows calls era.places other → one ≡ other
  -- behind an era that lost an answered WRITE no era shows its verifier
  pub across : (e f verifier : ℕ) (era later : EraPlan) → e < f → era_at eras e ≡ Some era → era_at eras f ≡ Some later
      → IsTrue (loses_write calls era) → Shows calls era.places verifier → ¬ Shows calls later.places verifier
