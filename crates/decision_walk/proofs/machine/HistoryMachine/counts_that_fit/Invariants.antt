use Rattle.std.proofs.Common.{ℕ, ◌+◌, ◌<◌, ◌⊎◌}
use Rattle.certificate.specs.Plan.{call_of}
use Rattle.decision_walk.specs.Opening.{IsWithin}
use Rattle.decision_walk.specs.Placings.{DoesNotFit}
use Rattle.decision_walk.proofs.machine.HistoryMachine.counts_that_fit.Given as goal

-- each count so far was tried
abbrev pub invariant-loop-more : goal.invariant-loop-more
invariant-loop-more l =
    (j : ℕ) → j < l.more → DoesNotFit l.self.history.now.known l.self.marks.items l.state l.one.call (call_of l.place) l.call l.outcome (l.one.least + j) ⊎ IsWithin l.counts (l.one.least + j)
