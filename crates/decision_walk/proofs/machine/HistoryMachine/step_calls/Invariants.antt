use Rattle.std.proofs.Common.{take}
use Rattle.decision_walk.specs.Placings.{HasStepsOf}
use Rattle.decision_walk.specs.View.{AllOf}
use Rattle.decision_walk.proofs.machine.HistoryMachine.step_calls.Given as goal

-- all to which the calls so far may lead, and all of them are compared by what the state is
abbrev pub invariant-loop-call : goal.invariant-loop-call
invariant-loop-call l = HasStepsOf l.self.history.now.known l.self.marks.items l.states.items (take l.call-index l.calls) l.state × AllOf l.state.origin l.states.items
