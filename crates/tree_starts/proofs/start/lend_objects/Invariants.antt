use Rattle.std.proofs.Common.{◌≡◌, take}
use Rattle.tree_starts.specs.Seen.{all_seen}
use Rattle.tree_starts.proofs.start.lend_objects.Given as goal

abbrev pub invariant-loop-object : goal.invariant-loop-object
invariant-loop-object l = all_seen l.seen.items ≡ take l.object-index l.objects
