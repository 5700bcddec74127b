use Rattle.std.proofs.Common.{arith, ◌<◌, length}
use Rattle.tcp_streams.proofs.Chains.{chain_on}
use Rattle.tcp_streams.proofs.filling.chained.Goals as goal

pub loop-index-preserved : goal.loop-index-preserved
loop-index-preserved c = λ behind. (let lt : c.loop-index.index < length c.args.runs.now = omega arith in chain_on c.args.runs.now c.loop-index.index c.args.next c.loop-index.«end» _ lt (c.loop-index.invariant behind) c.if-runs-index.false)
