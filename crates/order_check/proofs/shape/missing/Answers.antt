use Rattle.std.proofs.Common.{arith, refl}
use Rattle.order_check.proofs.ShapeLaws.{missing_here, missing_later}
use Rattle.order_check.proofs.shape.missing.Goals as goal

pub returns-then-is_missing : goal.returns-then-is_missing
returns-then-is_missing c =
    missing_here c.args.history.now.calls c.args.order.now _ c.args.named.now c.loop-index.index
    (c.requires, refl, omega (arith, c.loop-index-test.true, c.count-count.ensures.value), c.if-is_missing.ensures) c.loop-index.invariant

pub loop-index-preserved : goal.loop-index-preserved
loop-index-preserved c =
    missing_later c.args.history.now.calls c.args.order.now _ c.args.named.now c.loop-index.index
    (c.requires, refl, omega (arith, c.loop-index-test.true, c.count-count.ensures.value), c.if-is_missing.ensures) c.loop-index.invariant
