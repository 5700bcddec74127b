use Rattle.std.proofs.Common.{sym, ◌∙◌}
use Rattle.tree_stores.proofs.Blocks.{value_in_block, value_past}
use Rattle.tree_stores.proofs.slots.steps.value_at.Goals as goal

pub returns-in_default : goal.returns-in_default
returns-in_default g c = record { value = sym (value_past c.args.blocks.now c.args.number c.in_default.ensures.lookup.3) }

pub returns : goal.returns
returns g c =
    let found = c.in-Some.ensures.lookup in
    record { value = c.value_in.ensures ∙ sym (value_in_block c.args.blocks.now c.args.number c.in-Some.block.now found.3.0 found.1) }
