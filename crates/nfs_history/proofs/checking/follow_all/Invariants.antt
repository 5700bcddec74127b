use Rattle.nfs_history.proofs.CheckingSteps.{IsCheckedTo}
use Rattle.nfs_history.proofs.checking.follow_all.Given as goal

abbrev pub invariant-loop-index : goal.invariant-loop-index
invariant-loop-index l = IsCheckedTo l.events l.index l.calls
