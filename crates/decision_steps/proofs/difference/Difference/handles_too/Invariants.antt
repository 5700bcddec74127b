use Rattle.std.proofs.Common.{◌≡◌, ℕ, List, Contains, ◌<◌, get_or}
use Rattle.decision_steps.proofs.difference.Difference.handles_too.Given as goal

-- those that were passed are there
abbrev pub invariant-loop-handle : goal.invariant-loop-handle
invariant-loop-handle l = (h : List ℕ) (k : ℕ) → k < l.handle-index → get_or l.self.handles k h ≡ h → Contains l.handles.items h
