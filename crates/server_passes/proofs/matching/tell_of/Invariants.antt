use Rattle.std.proofs.Common.{◌≡◌, ◌+◌, take}
use Rattle.server_passes.specs.Matching.{told}
use Rattle.server_passes.proofs.matching.tell_of.Given as goal

abbrev pub invariant-loop-pass : goal.invariant-loop-pass
invariant-loop-pass l = l.untold + told (take l.pass-index l.passes) ≡ l.count
