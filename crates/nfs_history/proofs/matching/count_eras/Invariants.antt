use Rattle.nfs_history.proofs.MatchingSteps.{AreCountedTo}
use Rattle.nfs_history.proofs.matching.count_eras.Given as goal

abbrev pub invariant-loop-event : goal.invariant-loop-event
invariant-loop-event l = AreCountedTo l.events l.event-index l.eras
