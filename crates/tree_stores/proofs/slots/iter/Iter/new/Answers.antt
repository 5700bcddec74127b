use Rattle.std.proofs.Common.{◌++◌, List, ℕ, ap, ◌∙◌}
use Rattle.tree_stores.specs.Pages.{block_entries}
use Rattle.tree_stores.proofs.Blocks.{entries_of_all}
use Rattle.tree_stores.proofs.slots.iter.Iter.new.Goals as goal

pub returns : goal.returns
returns g c = ap (λ (z : List (ℕ × g.row.V.Denot)). z ++ block_entries 0 c.args.blocks.now) c.none.ensures ∙ entries_of_all 0 c.args.blocks.now
