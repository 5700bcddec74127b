use Rattle.decision_walk.specs.View.{AllOf}
use Rattle.decision_walk.proofs.machine.HistoryMachine.guesses.Given as goal

-- all so far are compared by what the state is
abbrev pub invariant-loop-object : goal.invariant-loop-object
invariant-loop-object l = AllOf l.state.origin l.states.items
