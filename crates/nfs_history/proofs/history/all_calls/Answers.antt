use Rattle.std.proofs.Common.{arith, ◌∙◌}
use Rattle.std.proofs.lemmas.List.{take_all}
use Rattle.nfs_history.proofs.Rereading.{none_missing, one_more_read}
use Rattle.nfs_history.proofs.history.all_calls.Goals as goal

pub unreachable-requires : goal.unreachable-requires
unreachable-requires c =
    none_missing c.args.known.now.calls c.loop-index.index c.in_ok-call.field-0 (omega (arith, c.loop-index-test.true, c.count-count.ensures.value)) c.in_ok-call.ensures c.in_default.is

pub loop-index-preserved : goal.loop-index-preserved
loop-index-preserved c =
    one_more_read c.args.known.now.calls c.loop-index.calls.items c.push.new.self.items c.loop-index.index c.in_ok-call.field-0 c.in-Some.call (omega (arith, c.loop-index-test.true, c.count-count.ensures.value)) c.in_ok-call.ensures c.in-Some.is c.loop-index.invariant c.in_ok-push.ensures.items

pub returns : goal.returns
returns c = c.loop-index.invariant ∙ take_all c.loop-index.index c.args.known.now.calls (omega (arith, c.loop-index-test.false, c.count-count.ensures.value))
