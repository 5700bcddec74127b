use Rattle.std.proofs.Common.{◌≡◌, ◌+◌, ◌-◌, ℕ, vec_len}
use Rattle.tree_nodes.specs.Ranks.{rank_of}
use Rattle.tree_nodes.proofs.ranks.Ranks.make_place.Given as goal

abbrev pub invariant-loop-self : goal.invariant-loop-self
invariant-loop-self l = (other : ℕ) → rank_of l.self other ≡ rank_of l.fn.self other

abbrev pub decreases-loop-self : goal.decreases-loop-self
decreases-loop-self l = l.index + 1 - vec_len l.self.ranks
