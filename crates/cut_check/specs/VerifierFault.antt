-- Believed.
-- The first era whose write verifiers are at fault (an order of this project's own; verifiers: RFC 1813, section 3.3.7).
use Rattle.std.specs.Prelude.{◌≡◌, ◌⊎◌, ℕ, ◌<◌, IsTrue, List, Some}
use Rattle.nfs_history.specs.declared.recorded.RecordedCall.{RecordedCall}
use Rattle.certificate.specs.declared.plan.EraPlan.{EraPlan}
use Rattle.cut_check.specs.Places.{era_at}
use Rattle.cut_check.specs.Verifier.{Shows, ShowsTwo, loses_write}

-- an era behind shows the verifier
abbrev pub ShowsLater : List RecordedCall → List EraPlan → ℕ → ℕ → Type 0
ShowsLater calls eras e verifier = (f : ℕ) × (later : EraPlan) × (e < f) × (era_at eras f ≡ Some later) × Shows calls later.places verifier

-- era e shows two verifiers, or it lost a WRITE and an era behind it shows its verifier
abbrev pub IsAtFault : List RecordedCall → List EraPlan → ℕ → Type 0
IsAtFault calls eras e = (era : EraPlan) × (era_at eras e ≡ Some era)
    × (ShowsTwo calls era.places ⊎ (IsTrue (loses_write calls era) × ((verifier : ℕ) × Shows calls era.places verifier × ShowsLater calls eras e verifier)))

-- the first such era
pub record IsVerifierFault (calls : List RecordedCall) (eras : List EraPlan) (e : ℕ) : Type 0 where
  pub at_fault : IsAtFault calls eras e
  pub first : (ahead : ℕ) → ahead < e → ¬ IsAtFault calls eras ahead
