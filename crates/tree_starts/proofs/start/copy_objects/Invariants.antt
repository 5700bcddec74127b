use Rattle.std.proofs.Common.{◌≡◌, take}
use Rattle.tree_starts.specs.Seen.{all_seen}
use Rattle.tree_starts.proofs.start.copy_objects.Given as goal

abbrev pub invariant-loop-object : goal.invariant-loop-object
invariant-loop-object l = l.objects.items ≡ all_seen (take l.object-index l.seen)
