use Rattle.std.proofs.Common.{◌++◌, List, ℕ, ap, ◌∙◌}
use Rattle.tree_stores.specs.Pages.{row_in, page_entries}
use Rattle.tree_stores.proofs.Blocks.{entries_of_block}
use Rattle.tree_stores.proofs.slots.iter.InBlock.new.Goals as goal

pub returns : goal.returns
returns g c =
    let short = rw c.row.ensures.is at c.row.ensures.short in
    ap (λ (z : List (ℕ × g.row.V.Denot)). z ++ page_entries c.args.number c.row.result.now) c.none.ensures
    ∙ ap (page_entries c.args.number) c.row.ensures.is ∙ entries_of_block c.args.number (row_in c.args.block.now) short
