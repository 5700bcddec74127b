use Rattle.std.proofs.Common.{◌≡◌, ◌⊎◌, ℕ, List, Contains, ◌<◌, get_or}
use Rattle.tree_handles.specs.Binding.{object_of}
use Rattle.decision_steps.specs.Differing.{Keeps}
use Rattle.decision_steps.proofs.state.State.put_all_rebound.Given as goal

-- those that were passed are there, or name the same
abbrev pub invariant-loop-handle : goal.invariant-loop-handle
invariant-loop-handle l = Keeps l.fn.handles.items l.handles.items
    × ((h : List ℕ) (k : ℕ) → k < l.handle-index → get_or l.among k h ≡ h → Contains l.handles.items h ⊎ (object_of l.self.binds h ≡ object_of l.like.binds h))
