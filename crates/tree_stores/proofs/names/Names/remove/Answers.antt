use Rattle.std.proofs.Common.{ap, ◌∙◌}
use Rattle.std.specs.FinMap as map
use Rattle.tree_stores.specs.Names.{pairs_of}
use Rattle.tree_stores.proofs.Maps.{without_seen}
use Rattle.tree_stores.proofs.names.Names.remove.Goals as goal

pub returns : goal.returns
returns c =
    without_seen (pairs_of c.self.inside.store) c.self.invariant.0 c.args.name.now (pairs_of c.remove.new.self) c.remove.ensures.same ∙ ap (λ m. map.remove m c.args.name.now) c.self.view_is
