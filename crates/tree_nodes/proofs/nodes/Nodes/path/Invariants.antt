use Rattle.tree_nodes.proofs.Climbing.{depth}
use Rattle.tree_nodes.proofs.Paths.{Gathers}
use Rattle.tree_nodes.proofs.nodes.Nodes.path.Given as goal

-- the names lead from the object that has been reached to the first one
abbrev pub invariant-loop-at : goal.invariant-loop-at
invariant-loop-at l = Gathers l.self l.fn.object l.at l.names.items

abbrev pub decreases-loop-at : goal.decreases-loop-at
decreases-loop-at l = depth l.self l.at
