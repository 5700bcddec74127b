use Rattle.std.proofs.Common.{sym, ap, ◌∙◌}
use Rattle.std.specs.FinMap as map
use Rattle.tree_stores.specs.Names.{pairs_of}
use Rattle.tree_stores.proofs.Maps.{got}
use Rattle.tree_stores.proofs.names.Names.get.Goals as goal

pub returns : goal.returns
returns c = c.object_of.ensures ∙ sym (got (pairs_of c.self.inside.store) c.self.invariant.0 c.args.name.now) ∙ ap (λ m. map.get m c.args.name.now) c.self.view_is
