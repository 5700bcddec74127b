use Rattle.std.proofs.Common.{◌/◌, arith}
use Rattle.tree_stores.specs.Pages.{owns_in}
use Rattle.tree_stores.proofs.Rows.{map_stays}
use Rattle.tree_stores.proofs.Blocks.{own_within_blocks, own_read_blocks, in_blocks, stood_blocks, put_blocks}
use Rattle.tree_stores.proofs.slots.steps.swap_at.Goals as goal

pub index_mut-requires : goal.index_mut-requires
index_mut-requires g c = omega (arith, own_within_blocks c.args.blocks.now.items c.args.number c.requires, c.args.blocks.now.ok)

pub swap_in-requires : goal.swap_in-requires
swap_in-requires g c = own_read_blocks c.args.blocks.now.items c.args.number c.index_mut.result.now c.requires c.index_mut.ensures.value

pub returns-clause-within : goal.returns-clause-within
returns-clause-within g c =
    in_blocks c.args.blocks.now.items c.args.number c.index_mut.result.now (own_within_blocks c.args.blocks.now.items c.args.number c.requires) c.index_mut.ensures.value

pub returns-clause-stood : goal.returns-clause-stood
returns-clause-stood g c =
    stood_blocks c.args.blocks.now.items c.args.number c.index_mut.result.now (own_within_blocks c.args.blocks.now.items c.args.number c.requires) c.index_mut.ensures.value
    c.swap_in.result c.swap_in.ensures.within c.swap_in.ensures.stood

pub returns-clause-puts : goal.returns-clause-puts
returns-clause-puts g c =
    put_blocks c.args.blocks.now.items c.args.number c.index_mut.result.now (own_within_blocks c.args.blocks.now.items c.args.number c.requires) c.index_mut.ensures.value
    c.swap_in.new.block c.args.slot c.swap_in.ensures.within c.swap_in.ensures.puts

pub returns-clause-kept : goal.returns-clause-kept
returns-clause-kept g c =
    map_stays owns_in c.args.blocks.now.items (c.args.number / 4096) c.index_mut.result.now c.swap_in.new.block c.index_mut.ensures.value c.swap_in.ensures.kept
