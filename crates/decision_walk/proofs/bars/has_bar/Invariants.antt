use Rattle.std.proofs.Common.{}
use Rattle.decision_walk.proofs.bars.has_bar.Given as goal

abbrev pub invariant-loop-one : goal.invariant-loop-one
invariant-loop-one l = Unit {0}
