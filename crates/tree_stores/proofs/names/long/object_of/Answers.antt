use Rattle.std.proofs.Common.{◌∙◌}
use Rattle.tree_stores.proofs.ManyLemmas.{looked_up}
use Rattle.tree_stores.proofs.names.long.object_of.Goals as goal

pub returns : goal.returns
returns c = c.copied.ensures ∙ c.get.ensures.value ∙ looked_up (λ key. key.items) c.args.name.now c.args.many.now.entries
