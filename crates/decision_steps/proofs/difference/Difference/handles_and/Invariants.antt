use Rattle.std.proofs.Common.{◌≡◌, ◌⊎◌, ℕ, Contains, ◌<◌, get_or}
use Rattle.std.specs.Prelude.{IsSome}
use Rattle.tree_handles.specs.Binding.{object_of}
use Rattle.decision_steps.specs.declared.given.GivenHandle.{GivenHandle}
use Rattle.decision_steps.specs.Differing.{Keeps}
use Rattle.decision_steps.proofs.difference.Difference.handles_and.Given as goal

-- those that were passed are there, or were bound
abbrev pub invariant-loop-one : goal.invariant-loop-one
invariant-loop-one l = Keeps l.self.handles l.handles.items
    × ((one : GivenHandle) (k : ℕ) → k < l.one-index → get_or l.given k one ≡ one → Contains l.handles.items one.handle.now ⊎ IsSome (object_of l.binds one.handle.now))
