use Rattle.nfs_history.proofs.MatchingSteps.{IsMatchedTo}
use Rattle.nfs_history.proofs.matching.matched_calls.Given as goal

abbrev pub invariant-loop-index : goal.invariant-loop-index
invariant-loop-index l = IsMatchedTo l.events l.index l.era l.replies l.calls.items
