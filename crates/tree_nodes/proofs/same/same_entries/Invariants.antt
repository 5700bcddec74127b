use Rattle.std.specs.FinMap as map
use Rattle.tree_nodes.proofs.Alike.{Compared}
use Rattle.tree_nodes.proofs.same.same_entries.Given as goal

-- so far both tables say the same
abbrev pub invariant-loop-object : goal.invariant-loop-object
invariant-loop-object l = Compared (map.entries l.one) (map.entries l.other) l.object-iterator l.theirs
