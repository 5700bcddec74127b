use Rattle.std.proofs.Common.{◌≡◌, true, false, is_some, sym, ap, ◌∙◌, arith}
use Rattle.std.specs.FinMap as map
use Rattle.tree_stores.specs.Slots.{value_of, map_of}
use Rattle.tree_stores.specs.Pages.{all_slots}
use Rattle.tree_stores.specs.Books.{Book}
use Rattle.tree_stores.proofs.SlotLemmas.{get_within, emptied_slot, len_emptied, len_kept}
use Rattle.tree_stores.proofs.slots.pages.Pages.take.Goals as goal

pub overflow_sub-self : goal.overflow_sub-self
overflow_sub-self g c =
    let xs = all_slots c.self.inside.blocks.items in
    let some : is_some (value_of c.swap_at.result) ≡ true = ap is_some (sym c.into_value-value.ensures) ∙ sym c.is_some.ensures ∙ c.if-is_some.true in
    omega (arith, len_emptied xs c.args.number c.swap_at.result c.swap_at.ensures.within c.swap_at.ensures.stood some, c.self.invariant.counted)

pub invariant_of-self : goal.invariant_of-self
invariant_of-self g c =
    let xs = all_slots c.self.inside.blocks.items in
    let some : is_some (value_of c.swap_at.result) ≡ true = ap is_some (sym c.into_value-value.ensures) ∙ sym c.is_some.ensures ∙ c.if-is_some.true in
    let less = len_emptied xs c.args.number c.swap_at.result c.swap_at.ensures.within c.swap_at.ensures.stood some in
    record {
      few = omega (arith, c.swap_at.ensures.few, c.self.invariant.few);
      counted = omega (arith, less, c.self.invariant.counted, ap (λ z. map.len (map_of z)) c.swap_at.ensures.puts);
    }

pub invariant_of-self-else-is_some : goal.invariant_of-self-else-is_some
invariant_of-self-else-is_some g c =
    let xs = all_slots c.self.inside.blocks.items in
    let none : is_some (value_of c.swap_at.result) ≡ false = ap is_some (sym c.into_value-value.ensures) ∙ sym c.is_some.ensures ∙ c.if-is_some.false in
    let same = len_kept xs c.args.number c.swap_at.result c.swap_at.ensures.within c.swap_at.ensures.stood none in
    record { few = omega (arith, c.swap_at.ensures.few, c.self.invariant.few); counted = c.self.invariant.counted ∙ sym same ∙ ap (λ z. map.len (map_of z)) (sym c.swap_at.ensures.puts) }

pub returns-then-is_some-clause-value : goal.returns-then-is_some-clause-value
returns-then-is_some-clause-value g c =
    let xs = all_slots c.self.inside.blocks.items in
    c.into_value-value.ensures ∙ sym (get_within xs c.args.number c.swap_at.result c.swap_at.ensures.within c.swap_at.ensures.stood)
    ∙ ap (λ (b : Book g.row.V.Denot). map.get b.map c.args.number) c.self.view_is

pub returns-else-is_some-clause-value : goal.returns-else-is_some-clause-value
returns-else-is_some-clause-value g c =
    let xs = all_slots c.self.inside.blocks.items in
    c.into_value-value.ensures ∙ sym (get_within xs c.args.number c.swap_at.result c.swap_at.ensures.within c.swap_at.ensures.stood)
    ∙ ap (λ (b : Book g.row.V.Denot). map.get b.map c.args.number) c.self.view_is

pub returns-then-is_some-clause-updates : goal.returns-then-is_some-clause-updates
returns-then-is_some-clause-updates g c =
    let xs = all_slots c.self.inside.blocks.items in
    ap map_of c.swap_at.ensures.puts ∙ emptied_slot xs c.args.number c.swap_at.ensures.within
    ∙ ap (λ (b : Book g.row.V.Denot). map.remove b.map c.args.number) c.self.view_is

pub returns-else-is_some-clause-updates : goal.returns-else-is_some-clause-updates
returns-else-is_some-clause-updates g c =
    let xs = all_slots c.self.inside.blocks.items in
    ap map_of c.swap_at.ensures.puts ∙ emptied_slot xs c.args.number c.swap_at.ensures.within
    ∙ ap (λ (b : Book g.row.V.Denot). map.remove b.map c.args.number) c.self.view_is
