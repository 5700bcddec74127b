use Rattle.std.proofs.Common.{take, nat_eq}
use Rattle.indexmap.specs.IndexSet.{contains}
use Rattle.server_passes.specs.Least.{IsLeast}
use Rattle.server_passes.specs.Matching.{IsToldTwice}
use Rattle.server_passes.proofs.LeastSteps.{AreMet}
use Rattle.server_passes.proofs.matching.least_twice.Given as goal

abbrev pub invariant-loop-pass : goal.invariant-loop-pass
invariant-loop-pass l = record {
  met : AreMet (take l.pass-index l.passes) (contains nat_eq l.met);
  least : IsLeast (IsToldTwice (take l.pass-index l.passes)) l.least;
}
