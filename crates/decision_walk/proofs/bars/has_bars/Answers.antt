use Rattle.std.proofs.Common.{arith, rules}
use Rattle.decision_core.proofs.Sets.{one_more, all_gone_over}
use Rattle.decision_walk.specs.Bars.{IsBarred}
use Rattle.decision_walk.proofs.bars.has_bars.Goals as goal

pub loop-bar-init : goal.loop-bar-init
loop-bar-init c = λ known binds met. tt

pub loop-bar-preserved : goal.loop-bar-preserved
loop-bar-preserved c = λ known binds met.
    one_more (IsBarred known binds) (IsBarred known binds) c.args.others.now c.loop-bar.bar-index _ c.loop-bar-test.true (λ bar is. is) (c.loop-bar.invariant known binds met) (c.has_bar.ensures (search rules) known binds met)

pub returns : goal.returns
returns c = λ _ known binds met.
    all_gone_over (IsBarred known binds) c.args.others.now c.loop-bar.bar-index (omega (arith, c.loop-bar-test.false)) (c.loop-bar.invariant known binds met)
