use Rattle.std.proofs.Common.{sym, ap, ◌∙◌}
use Rattle.tree_stores.specs.Slots.{value_of}
use Rattle.tree_stores.specs.Pages.{row_in}
use Rattle.tree_stores.proofs.Blocks.{past_pages, past_page, found_pages}
use Rattle.tree_stores.proofs.slots.block.value_in.Goals as goal

pub returns-in_default : goal.returns-in_default
returns-in_default g c =
    let past = rw c.row.ensures.is at c.in_default.ensures.lookup in
    sym (ap value_of (past_pages (row_in c.args.block.now) c.args.place past.3))

pub returns-in_default-get : goal.returns-in_default-get
returns-in_default-get g c =
    let found = rw c.row.ensures.is at c.in-Some.ensures.lookup in
    let past = rw c.row-2.ensures.is at c.in_default-get.ensures.lookup in
    sym (ap value_of (past_page (row_in c.args.block.now) c.args.place c.in-Some.page.now found.3.0 found.1 past.3))

pub returns : goal.returns
returns g c =
    let found = rw c.row.ensures.is at c.in-Some.ensures.lookup in
    let slot = rw c.row-2.ensures.is at c.in-Some-get.ensures.lookup in
    c.value.ensures ∙ sym (ap value_of (found_pages (row_in c.args.block.now) c.args.place c.in-Some.page.now found.3.0 found.1 c.in-Some-get.slot.now slot.3.0 slot.1))
