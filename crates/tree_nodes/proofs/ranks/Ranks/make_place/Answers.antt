use Rattle.std.proofs.Common.{refl, ◌∙◌}
use Rattle.tree_nodes.proofs.Ranking.{rank_pushed}
use Rattle.tree_nodes.proofs.ranks.Ranks.make_place.Goals as goal

pub loop-self-preserved : goal.loop-self-preserved
loop-self-preserved c = λ other. rank_pushed c.loop-self.self (record { first = c.loop-self.self.first; ranks = c.push.new.self }) refl c.in-Ok.ensures.items other ∙ c.loop-self.invariant other
