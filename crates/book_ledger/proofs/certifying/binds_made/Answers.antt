use Rattle.std.proofs.Common.{◌+◌, length, map, arith}
use Rattle.tree_starts.specs.Start.{object_made}
use Rattle.book_laws.specs.Plan.{bind_of}
use Rattle.book_ledger.specs.Inside.{made_in}
use Rattle.book_ledger.proofs.Noting.{made_is}
use Rattle.book_ledger.proofs.Plans.{binds_grown}
use Rattle.book_ledger.proofs.certifying.binds_made.Goals as goal

pub loop-index-preserved : goal.loop-index-preserved
loop-index-preserved c =
    let calls = c.args.calls.now in
    let first = length c.args.history.now.known.head.start in
    let i = c.loop-index.index in
    let is = made_is first (i + 1) in
    binds_grown c.loop-index.binds.items c.add_made.new.binds.items (map bind_of (made_in first calls)) calls i (first + 1 + i) (object_made first (i + 1)) (first + 1 + (i + 1)) (i + 1) _ c.loop-index-test.true
    (omega (arith, is)) (omega arith) (omega arith) c.in_ok-add_made.ensures c.loop-index.invariant
