use Rattle.decision_walk.specs.Placings.{HasCounts}
use Rattle.decision_walk.specs.View.{Adds}
use Rattle.decision_walk.proofs.machine.HistoryMachine.place_counts.Given as goal

-- each count so far was tried
abbrev pub invariant-loop-count : goal.invariant-loop-count
invariant-loop-count l = Adds l.state.origin l.fn.states.items l.states.items × HasCounts l.self.history.now.known l.self.marks.items l.states.items l.state l.n l.call l.count
