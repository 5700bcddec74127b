use Rattle.std.specs.Ordering.{nat_cmp}
use Rattle.std.specs.BTreeMap.{get, btree_map_len}
use Rattle.cut_check.proofs.BoundaryLaws.{IsClearedSoFar}
use Rattle.cut_check.proofs.last_writes.clear.Given as goal

abbrev pub invariant-loop-byte : goal.invariant-loop-byte
invariant-loop-byte l = IsClearedSoFar (get nat_cmp l.initial.boundaries) (get nat_cmp l.boundaries) l.first l.last l.greatest

abbrev pub decreases-loop-byte : goal.decreases-loop-byte
decreases-loop-byte l = btree_map_len l.boundaries
