use Rattle.decision_walk.specs.Barring.{KeepsBars}
use Rattle.decision_walk.proofs.machine.HistoryMachine.put_bars.Given as goal

-- the bars so far are met
abbrev pub invariant-loop-object : goal.invariant-loop-object
invariant-loop-object l = KeepsBars l.self.history.now.known l.state l.call l.fn.bars.items l.bars.items
