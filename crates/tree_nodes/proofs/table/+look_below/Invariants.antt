use Rattle.std.proofs.Common.{◌<◌}
use Rattle.tree_nodes.specs.Table.{child}
use Rattle.tree_nodes.specs.Walk.{IsBeyond}
use Rattle.tree_nodes.proofs.Below.{Passed}
use Rattle.tree_nodes.proofs.table.+look_below.Given as goal

abbrev pub decreases-look_below : goal.decreases-look_below
decreases-look_below l = l.most

-- no names lead to the object from those that have gone by
abbrev pub invariant-loop-next : goal.invariant-loop-next
invariant-loop-next l = (l.left < l.fn.most) × Passed (IsBeyond (child l.entries) l.fn.object) (child l.entries l.front) l.next-iterator
