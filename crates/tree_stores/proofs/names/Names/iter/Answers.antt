use Rattle.std.proofs.Common.{sym, ap, ◌∙◌}
use Rattle.std.specs.FinMap as map
use Rattle.tree_stores.specs.Names.{pairs_of}
use Rattle.tree_stores.proofs.Maps.{all_entries}
use Rattle.tree_stores.proofs.names.Names.iter.Goals as goal

pub returns : goal.returns
returns c = c.iter.ensures ∙ sym (all_entries (pairs_of c.self.inside.store) c.self.invariant.0) ∙ ap map.entries c.self.view_is
