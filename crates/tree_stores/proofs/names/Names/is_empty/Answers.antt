use Rattle.std.proofs.Common.{sym, ap, ◌∙◌}
use Rattle.std.specs.Prelude.{◌==◌}
use Rattle.std.specs.FinMap as map
use Rattle.tree_stores.specs.Names.{pairs_of}
use Rattle.tree_stores.proofs.Maps.{counted}
use Rattle.tree_stores.proofs.names.Names.is_empty.Goals as goal

pub returns : goal.returns
returns c = c.is_empty.ensures ∙ ap (λ n. n == 0) (sym (counted (pairs_of c.self.inside.store) c.self.invariant.0)) ∙ ap (λ m. map.len m == 0) c.self.view_is
