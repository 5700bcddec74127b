-- Believed.
-- What a crash may take away: the places of an era past its cut, if none of them is stable (RFC 1813, section 4.8: what is on
-- stable storage survives a crash; cuts are those of Izraelevitz, Mendes and Scott 2016, with a prefix of the order where
-- they have a consistent cut).
use Rattle.std.specs.Prelude.{◌≡◌, ℕ, ◌<◌, List, length, Some}
use Rattle.nfs_history.specs.declared.recorded.RecordedCall.{RecordedCall}
use Rattle.certificate.specs.declared.plan.EraPlan.{EraPlan}
use Rattle.certificate.specs.Plan.{cut_of}
use Rattle.tree_handles.specs.Binding.{Bindings}
use Rattle.cut_check.specs.Stable.{IsStableAt}
use Rattle.cut_check.specs.Places.{era_at, effects_of}

-- no place past the cut is stable
abbrev pub KeepsStable : Bindings → List RecordedCall → EraPlan → Type 0
KeepsStable binds calls era = (position : ℕ) → cut_of era < position → ¬ IsStableAt (effects_of binds calls era.places) position

-- of each era but the last, which no crash ended
abbrev pub CutsKeepStable : Bindings → List RecordedCall → List EraPlan → Type 0
CutsKeepStable binds calls eras = (e : ℕ) (era : EraPlan) → era_at eras e ≡ Some era → e < length eras → KeepsStable binds calls era
