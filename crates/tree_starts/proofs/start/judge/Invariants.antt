use Rattle.std.proofs.Common.{◌≡◌, ◌+◌, [], drop, length}
use Rattle.tree_starts.specs.Start.{keys_of, fault_from}
use Rattle.tree_starts.proofs.start.judge.Given as goal

abbrev pub invariant-loop-index : goal.invariant-loop-index
invariant-loop-index l = (length l.table ≡ l.index) × (fault_from (keys_of l.table) (l.index + 1) (drop l.index l.objects) ≡ fault_from [] 1 l.objects)
