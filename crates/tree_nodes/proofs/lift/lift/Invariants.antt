use Rattle.tree_nodes.specs.Table.{held}
use Rattle.tree_nodes.specs.Ranks.{rank_of, IsRankedBut}
use Rattle.tree_nodes.proofs.lift.lift.Given as goal

-- all are under those that they lie in, but for what lies in the directory that was reached
abbrev pub invariant-loop-step : goal.invariant-loop-step
invariant-loop-step l = IsRankedBut (held l.entries) (rank_of l.ranks) l.at l.least
