use Rattle.tree_nodes.proofs.Climbing.{depth, Climbs}
use Rattle.tree_nodes.proofs.nodes.Nodes.is_from.Given as goal

-- from the object that has been reached on, the answer is the same
abbrev pub invariant-loop-at : goal.invariant-loop-at
invariant-loop-at l = Climbs l.self l.fn.object l.at l.front

abbrev pub decreases-loop-at : goal.decreases-loop-at
decreases-loop-at l = depth l.self l.at
