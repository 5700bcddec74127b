use Rattle.std.proofs.Common.{sym, ap, ◌∙◌}
use Rattle.tree_stores.specs.Slots.{entries_from}
use Rattle.tree_stores.specs.Pages.{row_in}
use Rattle.tree_stores.proofs.Rows.{entries-padded}
use Rattle.tree_stores.proofs.slots.iter.InPage.new.Goals as goal

pub returns : goal.returns
returns g c =
    let short = rw c.row.ensures.is at c.row.ensures.short in
    ap (entries_from c.args.number) c.row.ensures.is ∙ sym (entries-padded 64 c.args.number (row_in c.args.page.now) short)
