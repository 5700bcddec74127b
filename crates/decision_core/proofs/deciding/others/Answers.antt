use Rattle.std.proofs.Common.{arith}
use Rattle.decision_core.proofs.Waiting.{without_more, without_all}
use Rattle.decision_core.proofs.deciding.others.Goals as goal

pub loop-call-preserved : goal.loop-call-preserved
loop-call-preserved g c =
    without_more c.args.n c.loop-call.call-index c.args.waiting.now c.loop-call.left.items c.add_other.new.left.items c.loop-call-test.true c.in_ok-add_other.ensures c.loop-call.invariant

pub returns : goal.returns
returns g c = without_all c.args.n c.loop-call.call-index c.args.waiting.now c.loop-call.left.items (omega (arith, c.loop-call-test.false)) c.loop-call.invariant
