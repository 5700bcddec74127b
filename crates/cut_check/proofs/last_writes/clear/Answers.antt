-- One more boundary is gone.
use Rattle.std.proofs.Common.{sym, subst}
use Rattle.std.specs.Ordering.{nat_cmp}
use Rattle.std.specs.BTreeMap.{get}
use Rattle.cut_check.proofs.BoundaryLaws.{IsClearedSoFar, cleared_more, is_at_apart}
use Rattle.cut_check.proofs.last_writes.clear.Goals as goal

pub loop-byte-preserved : goal.loop-byte-preserved
loop-byte-preserved c =
    let old = get nat_cmp c.args.boundaries.now in
    let now = get nat_cmp c.loop-byte.boundaries in
    let new = get nat_cmp c.remove.new.self in
    let byte = c.in-Some.byte in
    let found = c.in-Some.ensures in
    let updates = c.remove.ensures.updates in
    subst (IsClearedSoFar old new c.args.first c.args.last) (sym c.max-greatest.ensures)
    (cleared_more old now new c.args.first c.args.last c.loop-byte.greatest byte c.in-Some.position c.loop-byte.invariant found.0 found.1 found.2
    updates.1 (λ q apart. updates.2 q (is_at_apart byte q apart)))
