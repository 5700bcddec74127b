use Rattle.nfs_history.proofs.JudgingSteps.{AreJudgedTo}
use Rattle.nfs_history.proofs.judging.kinds_of.Given as goal

abbrev pub invariant-loop-index : goal.invariant-loop-index
invariant-loop-index l = AreJudgedTo l.seen l.index l.kinds.items
