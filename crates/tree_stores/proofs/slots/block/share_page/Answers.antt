use Rattle.std.proofs.Common.{List, Option, get_or, sym, ap, ◌∙◌}
use Rattle.tree_stores.specs.declared.slots.slot.Slot.TheVariants.{Empty}
use Rattle.tree_stores.specs.Pages.{Page, row_of, row_in, slots_of}
use Rattle.tree_stores.proofs.Blocks.{alike_same}
use Rattle.tree_stores.proofs.slots.block.share_page.Goals as goal

pub returns : goal.returns
returns g c = λ k.
    let is = ap (λ (o : Option (List (Page g.row.V.Denot))). row_of o c.own.new.self.shared) c.in-Some.is in
    alike_same (row_in c.share.new.self) c.share_among.new.row c.share.ensures k ∙ c.share_among.ensures k
    ∙ ap (λ (z : List (Page g.row.V.Denot)). get_or (slots_of z) k Empty) (sym is ∙ c.in-Ok.ensures.same)
