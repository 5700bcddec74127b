use Rattle.std.proofs.Common.{take}
use Rattle.std.specs.List.{AllByRecursion}
use Rattle.decision_walk.specs.Placings.{HasTaken}
use Rattle.decision_walk.specs.View.{AddsFrom}
use Rattle.decision_walk.proofs.machine.HistoryMachine.take_in_guesses.Given as goal

-- the WRITE was taken in each so far
abbrev pub invariant-loop-guess : goal.invariant-loop-guess
invariant-loop-guess l = AddsFrom l.guesses l.fn.states.items l.states.items
    × AllByRecursion (λ guess. HasTaken l.self.history.now.known l.self.marks.items l.states.items guess l.n l.call) (take l.guess-index l.guesses)
