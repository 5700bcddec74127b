use Rattle.decision_walk.proofs.Barrings.{bars_stay, bars_then}
use Rattle.decision_walk.proofs.machine.HistoryMachine.put_bars.Goals as goal

pub loop-object-init : goal.loop-object-init
loop-object-init c = bars_stay c.args.self.now.history.now.known c.args.state.now c.args.call.now c.args.bars.now.items

pub loop-object-preserved : goal.loop-object-preserved
loop-object-preserved c =
    bars_then c.args.self.now.history.now.known c.args.state.now c.args.call.now c.args.bars.now.items c.loop-object.bars.items c.put_bar.new.bars.items c.loop-object.invariant c.in_ok-put_bar.ensures

pub returns : goal.returns
returns c = c.loop-object.invariant
