use Rattle.std.proofs.Common.{◌≡◌, ◌++◌}
use Rattle.std.specs.FinMap as map
use Rattle.std.specs.Map.{keys_of}
use Rattle.tree_nodes.proofs.table.objects_of.Given as goal

-- the numbers so far, with those that are left, are all
abbrev pub invariant-loop-object : goal.invariant-loop-object
invariant-loop-object l = l.objects.items ++ keys_of l.object-iterator ≡ keys_of (map.entries l.entries)
