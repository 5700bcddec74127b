use Rattle.std.proofs.Common.{take}
use Rattle.std.specs.List.{AllByRecursion}
use Rattle.certificate.specs.Plan.{call_of}
use Rattle.decision_walk.specs.Placings.{HasPlaced}
use Rattle.decision_walk.specs.View.{AddsFrom}
use Rattle.decision_walk.proofs.machine.HistoryMachine.place_in_guesses.Given as goal

-- the call was tried in each so far
abbrev pub invariant-loop-guess : goal.invariant-loop-guess
invariant-loop-guess l = AddsFrom l.guesses l.fn.states.items l.states.items
    × AllByRecursion (λ guess. HasPlaced l.self.history.now.known l.self.marks.items l.states.items guess (call_of l.place) l.call l.outcome) (take l.guess-index l.guesses)
