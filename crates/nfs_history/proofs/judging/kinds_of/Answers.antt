use Rattle.std.proofs.Common.{arith}
use Rattle.std.proofs.lemmas.Result.{err_from_is_err_and}
use Rattle.nfs_history.proofs.JudgingSteps.{none_judged, readable_at, stops_here, judged_more, all_judged}
use Rattle.nfs_history.proofs.judging.kinds_of.Goals as goal

pub loop-index-init : goal.loop-index-init
loop-index-init c = rw c.in_ok-kinds.ensures.items (none_judged c.args.seen.now)

pub checked_kind-requires : goal.checked_kind-requires
checked_kind-requires c = readable_at c.args.seen.now c.loop-index.index _ (omega arith) c.requires

pub returns-in_err-kind-clause-fault : goal.returns-in_err-kind-clause-fault
returns-in_err-kind-clause-fault c =
    let p = err_from_is_err_and c.from_residual-in_err-kind.result c.from_residual-in_err-kind.ensures.1 in
    rw (p.1, p.2) (stops_here c.args.seen.now c.loop-index.index _ c.loop-index.kinds.items c.in_err-kind.field-0.0 (omega arith) c.in_err-kind.ensures.fault c.loop-index.invariant)

pub loop-index-preserved : goal.loop-index-preserved
loop-index-preserved c =
    judged_more c.args.seen.now c.loop-index.index _ c.loop-index.kinds.items c.push.new.self.items c.in_ok-kind.kind (omega arith) c.in_ok-push.ensures.items c.in_ok-kind.ensures.found c.loop-index.invariant

pub returns-clause-found : goal.returns-clause-found
returns-clause-found c = all_judged c.args.seen.now c.loop-index.index c.loop-index.kinds.items (omega arith) c.loop-index.invariant
