use Rattle.std.proofs.Common.{◌≡◌, ◌⊎◌, ℕ, Contains, ◌<◌, get_or}
use Rattle.tree_nodes.specs.Spots.{spot_of}
use Rattle.decision_steps.specs.Differing.{Keeps}
use Rattle.decision_steps.proofs.state.State.put_all_unlike.Given as goal

-- those that were passed are there, or are the same in both
abbrev pub invariant-loop-object : goal.invariant-loop-object
invariant-loop-object l = Keeps l.fn.objects.items l.objects.items
    × ((o k : ℕ) → k < l.object-index → get_or l.among k o ≡ o → Contains l.objects.items o ⊎ (spot_of l.self.tree o ≡ spot_of l.like.tree o))
