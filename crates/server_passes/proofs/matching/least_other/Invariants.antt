use Rattle.std.proofs.Common.{take}
use Rattle.server_passes.specs.Least.{IsLeast}
use Rattle.server_passes.specs.Telling.{IsToldOtherThan}
use Rattle.server_passes.proofs.matching.least_other.Given as goal

abbrev pub invariant-loop-pass : goal.invariant-loop-pass
invariant-loop-pass l = IsLeast (IsToldOtherThan l.events l.lanes (take l.pass-index l.passes)) l.least
