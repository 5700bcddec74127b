use Rattle.std.proofs.Common.{◌≡◌, ℕ, ◌<◌, Some}
use Rattle.certificate.specs.declared.plan.EraPlan.{EraPlan}
use Rattle.cut_check.specs.Places.{era_at}
use Rattle.cut_check.specs.Cut.{KeepsStable}
use Rattle.cut_check.proofs.cut.first_short_cut.Given as goal

abbrev pub invariant-loop-number : goal.invariant-loop-number
invariant-loop-number l = (e : ℕ) (era : EraPlan) → era_at l.eras e ≡ Some era → e < l.number → KeepsStable l.binds l.history.calls era
