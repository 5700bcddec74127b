use Rattle.tree_nodes.proofs.Prints.{Prints}
use Rattle.tree_nodes.proofs.nodes.Nodes.put_entries.Given as goal

-- the entries that are left come behind what has been put
abbrev pub invariant-loop-path : goal.invariant-loop-path
invariant-loop-path l = Prints l.self l.fn.out.items l.out.items l.path-iterator
