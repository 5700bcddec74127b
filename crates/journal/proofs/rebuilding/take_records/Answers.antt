use Rattle.std.proofs.Common.{length, ap, arith}
use Rattle.journal.proofs.Records.{stands_first, stands_next, stops_next}
use Rattle.journal.proofs.rebuilding.take_records.Goals as goal

pub loop-index-init : goal.loop-index-init
loop-index-init c =
    stands_first c.args.profile c.args.start.now c.args.records.now c.args.binds.now c.args.tree.now c.objects.ensures.start c.requires.binds c.requires.tree

pub loop-index-preserved : goal.loop-index-preserved
loop-index-preserved c =
    stands_next c.args.profile c.args.start.now c.args.records.now c.loop-index.index _ c.index-records-index.result c.as_slice.result.now c.loop-index.binds c.take_record.new.binds
    c.loop-index.tree c.take_record.new.tree (omega arith) c.index-records-index.is c.as_slice.ensures (ap length c.objects.ensures.value) c.loop-index.invariant c.in-Ok.ensures.ok

pub returns-in-Err-clause-fault : goal.returns-in-Err-clause-fault
returns-in-Err-clause-fault c =
    stops_next c.args.profile c.args.start.now c.args.records.now c.loop-index.index _ _ c.index-records-index.result c.as_slice.result.now c.loop-index.binds c.loop-index.tree (omega arith)
    c.index-records-index.is c.as_slice.ensures (ap length c.objects.ensures.value) (omega arith) c.loop-index.invariant c.in-Err.fault c.in-Err.ensures.fault
