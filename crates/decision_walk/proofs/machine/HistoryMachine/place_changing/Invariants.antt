use Rattle.std.proofs.Common.{ℕ, ◌+◌, ◌<◌}
use Rattle.certificate.specs.Plan.{call_of}
use Rattle.decision_walk.specs.Placings.{HasPlacedFor}
use Rattle.decision_walk.specs.View.{Adds}
use Rattle.decision_walk.proofs.machine.HistoryMachine.place_changing.Given as goal

-- each count so far was tried
abbrev pub invariant-loop-more : goal.invariant-loop-more
invariant-loop-more l = Adds l.state.origin l.fn.states.items l.states.items
    × ((j : ℕ) → j < l.more → HasPlacedFor l.self.history.now.known l.self.marks.items l.states.items l.state l.one.call (l.one.least + j) (call_of l.place) l.call l.outcome)
