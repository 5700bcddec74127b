use Rattle.std.proofs.Common.{take}
use Rattle.std.specs.List.{AllByRecursion}
use Rattle.decision_walk.specs.Guessing.{HasGuess}
use Rattle.decision_walk.specs.View.{Adds}
use Rattle.decision_walk.proofs.machine.HistoryMachine.put_guesses.Given as goal

-- each object so far was tried
abbrev pub invariant-loop-object : goal.invariant-loop-object
invariant-loop-object l = Adds l.state.origin l.fn.states.items l.states.items × AllByRecursion (HasGuess l.self.history.now.known l.states.items l.state l.handle) (take l.object-index l.object-items)
