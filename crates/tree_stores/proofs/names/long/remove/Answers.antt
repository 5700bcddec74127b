use Rattle.std.proofs.Common.{ap, ◌∙◌}
use Rattle.tree_stores.specs.Names.{entered}
use Rattle.tree_stores.proofs.Orders.{holds}
use Rattle.tree_stores.proofs.ManyLemmas.{removed_entered}
use Rattle.tree_stores.proofs.names.long.remove.Goals as goal

pub returns : goal.returns
returns c = ap (entered (λ key. key.items)) c.remove.ensures.entries ∙ removed_entered (λ key. key.items) c.args.name.now c.args.many.now.entries (holds _ c.requires)
