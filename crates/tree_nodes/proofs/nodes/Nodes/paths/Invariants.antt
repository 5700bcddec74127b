use Rattle.tree_nodes.proofs.Paths.{Collects}
use Rattle.tree_nodes.proofs.nodes.Nodes.paths.Given as goal

-- what has been put is right, and what hasn't is left
abbrev pub invariant-loop-object : goal.invariant-loop-object
invariant-loop-object l = Collects l.self l.paths l.object-iterator
