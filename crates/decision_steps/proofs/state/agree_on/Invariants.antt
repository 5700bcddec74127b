use Rattle.std.proofs.Common.{◌≡◌, ℕ, List, Some, ◌<◌, get_or}
use Rattle.tree_handles.specs.Binding.{object_of}
use Rattle.decision_steps.proofs.state.agree_on.Given as goal

-- those that were passed agree
abbrev pub invariant-loop-handle : goal.invariant-loop-handle
invariant-loop-handle l = (h : List ℕ) (k : ℕ) → k < l.handle-index → get_or l.handles k h ≡ h → (object : ℕ) → object_of l.binds h ≡ Some object → object_of l.others h ≡ Some object
