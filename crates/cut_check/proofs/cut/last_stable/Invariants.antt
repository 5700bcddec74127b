use Rattle.std.proofs.Common.{take}
use Rattle.cut_check.specs.Places.{effects_of}
use Rattle.cut_check.specs.Stability.{IsStabilityOf}
use Rattle.cut_check.proofs.cut.last_stable.Given as goal

abbrev pub invariant-loop-place : goal.invariant-loop-place
invariant-loop-place l = IsStabilityOf l.stability (effects_of l.binds l.history.calls (take l.place-index l.places))
