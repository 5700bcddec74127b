use Rattle.std.proofs.Common.{ap, ◌∙◌}
use Rattle.tree_stores.specs.Names.{listed}
use Rattle.tree_stores.proofs.Maps.{seen, none_seen}
use Rattle.tree_stores.proofs.names.Names.new.Goals as goal

pub returns : goal.returns
returns c = ap (λ z. seen (listed z)) c.new.ensures.items ∙ none_seen
