use Rattle.tree_nodes.proofs.Listing.{Left}
use Rattle.tree_nodes.proofs.table.are_among.Given as goal

-- each name that has gone by is among the names
abbrev pub invariant-loop-object : goal.invariant-loop-object
invariant-loop-object l = Left l.names l.here l.object-iterator
