use Rattle.std.proofs.Common.{◌≡◌}
use Rattle.decision_steps.proofs.state.State.opening.Given as goal

abbrev pub invariant-loop-handle : goal.invariant-loop-handle
invariant-loop-handle l = l.binds ≡ l.initial.binds
