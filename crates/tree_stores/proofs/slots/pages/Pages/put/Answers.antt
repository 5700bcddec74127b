use Rattle.std.proofs.lemmas.List.{length-set}
use Rattle.std.proofs.Common.{◌≡◌, ◌+◌, true, false, length, is_some, refl, sym, ap, ◌∙◌, arith}
use Rattle.std.specs.Prelude.{not}
use Rattle.std.specs.FinMap as map
use Rattle.tree_stores.specs.declared.slots.slot.Slot.TheVariants.{Filled}
use Rattle.tree_stores.specs.Slots.{value_of, map_of}
use Rattle.tree_stores.specs.Pages.{all_slots}
use Rattle.tree_stores.specs.Books.{Book}
use Rattle.tree_stores.proofs.SlotLemmas.{get_within, filled_slot, len_within, len_filled, len_replaced}
use Rattle.tree_stores.proofs.Blocks.{bound_all}
use Rattle.tree_stores.proofs.slots.pages.Pages.put.Goals as goal

pub invariant_of-self : goal.invariant_of-self
invariant_of-self g c =
    let xs = all_slots c.self.inside.blocks.items in
    let none : is_some (value_of c.swap_at.result) ≡ false = ap is_some (sym c.into_value-old.ensures) ∙ c.is_none.ensures ∙ ap not c.if-is_none.true in
    let more = len_filled xs c.args.number c.swap_at.result c.swap_at.ensures.within c.swap_at.ensures.stood (Filled c.args.value) c.args.value refl none in
    record { few = omega (arith, c.swap_at.ensures.few, c.self.invariant.few); counted = ap (λ n. n + 1) c.self.invariant.counted ∙ sym more ∙ ap (λ z. map.len (map_of z)) (sym c.swap_at.ensures.puts) }

pub overflow_add-self : goal.overflow_add-self
overflow_add-self g c =
    let xs = all_slots c.self.inside.blocks.items in
    let none : is_some (value_of c.swap_at.result) ≡ false = ap is_some (sym c.into_value-old.ensures) ∙ c.is_none.ensures ∙ ap not c.if-is_none.true in
    let more = len_filled xs c.args.number c.swap_at.result c.swap_at.ensures.within c.swap_at.ensures.stood (Filled c.args.value) c.args.value refl none in
    let most = len_within (all_slots c.swap_at.new.blocks.items) in
    omega (arith, c.self.invariant.counted, more, ap (λ z. map.len (map_of z)) c.swap_at.ensures.puts, most, bound_all c.self.inside.blocks.items c.self.invariant.few, length-set (all_slots c.self.inside.blocks.items) c.args.number (Filled c.args.value), ap length c.swap_at.ensures.puts)

pub invariant_of-self-else-is_none : goal.invariant_of-self-else-is_none
invariant_of-self-else-is_none g c =
    let xs = all_slots c.self.inside.blocks.items in
    let some : is_some (value_of c.swap_at.result) ≡ true = ap is_some (sym c.into_value-old.ensures) ∙ c.is_none.ensures ∙ ap not c.if-is_none.false in
    let same = len_replaced xs c.args.number c.swap_at.result c.swap_at.ensures.within c.swap_at.ensures.stood (Filled c.args.value) c.args.value refl some in
    record { few = omega (arith, c.swap_at.ensures.few, c.self.invariant.few); counted = c.self.invariant.counted ∙ sym same ∙ ap (λ z. map.len (map_of z)) (sym c.swap_at.ensures.puts) }

pub returns-then-is_none-clause-value : goal.returns-then-is_none-clause-value
returns-then-is_none-clause-value g c =
    let xs = all_slots c.self.inside.blocks.items in
    c.into_value-old.ensures ∙ sym (get_within xs c.args.number c.swap_at.result c.swap_at.ensures.within c.swap_at.ensures.stood)
    ∙ ap (λ (b : Book g.row.V.Denot). map.get b.map c.args.number) c.self.view_is

pub returns-else-is_none-clause-value : goal.returns-else-is_none-clause-value
returns-else-is_none-clause-value g c =
    let xs = all_slots c.self.inside.blocks.items in
    c.into_value-old.ensures ∙ sym (get_within xs c.args.number c.swap_at.result c.swap_at.ensures.within c.swap_at.ensures.stood)
    ∙ ap (λ (b : Book g.row.V.Denot). map.get b.map c.args.number) c.self.view_is

pub returns-then-is_none-clause-updates : goal.returns-then-is_none-clause-updates
returns-then-is_none-clause-updates g c =
    let xs = all_slots c.self.inside.blocks.items in
    ap map_of c.swap_at.ensures.puts ∙ filled_slot xs c.args.number (Filled c.args.value) c.args.value c.swap_at.ensures.within refl
    ∙ ap (λ (b : Book g.row.V.Denot). map.insert b.map c.args.number c.args.value) c.self.view_is

pub returns-else-is_none-clause-updates : goal.returns-else-is_none-clause-updates
returns-else-is_none-clause-updates g c =
    let xs = all_slots c.self.inside.blocks.items in
    ap map_of c.swap_at.ensures.puts ∙ filled_slot xs c.args.number (Filled c.args.value) c.args.value c.swap_at.ensures.within refl
    ∙ ap (λ (b : Book g.row.V.Denot). map.insert b.map c.args.number c.args.value) c.self.view_is
