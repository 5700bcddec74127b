use Rattle.std.proofs.Common.{List, length, sym, ap, ◌∙◌, arith}
use Rattle.std.specs.FinMap as map
use Rattle.tree_stores.specs.Slots.{entries_from}
use Rattle.tree_stores.specs.Pages.{Block, all_slots}
use Rattle.tree_stores.specs.Books.{Book}
use Rattle.tree_stores.proofs.SlotLemmas.{entries-map_of}
use Rattle.tree_stores.proofs.slots.pages.Pages.iter.Goals as goal

pub new-requires : goal.new-requires
new-requires g c = omega (arith, ap length c.as_slice.ensures.value, c.self.invariant.few)

pub returns : goal.returns
returns g c =
    c.new.ensures ∙ ap (λ (z : List (Block g.row.V.Denot)). entries_from 0 (all_slots z)) c.as_slice.ensures.value
    ∙ sym (entries-map_of (all_slots c.self.inside.blocks.items)) ∙ ap (λ (b : Book g.row.V.Denot). map.entries b.map) c.self.view_is
