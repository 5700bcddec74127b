use Rattle.std.proofs.Common.{◌≡◌, ℕ, ◌<◌, get_or}
use Rattle.tree_nodes.specs.Table.{held}
use Rattle.tree_nodes.proofs.same.same_objects.Given as goal

abbrev pub invariant-loop-object : goal.invariant-loop-object
invariant-loop-object l = (k : ℕ) (d : ℕ) → k < l.object-index → held l.one (get_or l.objects k d) ≡ held l.other (get_or l.objects k d)
