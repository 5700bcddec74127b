use Rattle.std.proofs.Common.{arith}
use Rattle.decision_core.proofs.SpanLaws.{told_more, told_all, tells}
use Rattle.decision_core.proofs.spans.timeline.Goals as goal

pub loop-span-preserved : goal.loop-span-preserved
loop-span-preserved c =
    told_more c.args.spans.now c.loop-span.span-index _ c.loop-span.events.items c.put_span.new.events.items c.loop-span-test.true (c.put_span.ensures c.if-not-put_span.false) c.loop-span.invariant

pub returns : goal.returns
returns c = λ times are.
    tells times c.args.spans.now c.loop-span.events.items (told_all c.args.spans.now c.loop-span.span-index c.loop-span.events.items (omega (arith, c.loop-span-test.false)) c.loop-span.invariant) are
