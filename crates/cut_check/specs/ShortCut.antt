-- Believed.
-- The first cut that is short of a stable place (an order of this project's own; what is stable: RFC 1813, section 4.8).
use Rattle.std.specs.Prelude.{◌≡◌, ℕ, ◌<◌, List, length, Some}
use Rattle.nfs_history.specs.declared.recorded.RecordedCall.{RecordedCall}
use Rattle.certificate.specs.declared.plan.EraPlan.{EraPlan}
use Rattle.certificate.specs.Plan.{cut_of}
use Rattle.tree_handles.specs.Binding.{Bindings}
use Rattle.cut_check.specs.Stable.{IsLastStable}
use Rattle.cut_check.specs.Places.{era_at, effects_of}
use Rattle.cut_check.specs.Cut.{KeepsStable}

-- the cut of era e is short of its last stable place, which stands at this position, and each era ahead keeps its own
pub record IsShortCut (binds : Bindings) (calls : List RecordedCall) (eras : List EraPlan) (e needed : ℕ) : Type 0 where
  pub era : EraPlan
  pub there : era_at eras e ≡ Some era
  pub not_last : e < length eras
  pub last_stable : IsLastStable (effects_of binds calls era.places) needed
  pub short : cut_of era < needed
  pub first : (ahead : ℕ) (other : EraPlan) → ahead < e → era_at eras ahead ≡ Some other → KeepsStable binds calls other
