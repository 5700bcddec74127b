use Rattle.std.proofs.Common.{◌<◌, ◌/◌, length, arith}
use Rattle.tree_stores.proofs.Blocks.{values_set}
use Rattle.tree_stores.proofs.slots.steps.share_at.Goals as goal

pub returns-then-index-len-clause-same : goal.returns-then-index-len-clause-same
returns-then-index-len-clause-same g c =
    let inside : c.args.number / 4096 < length c.args.blocks.now.items = omega (arith, c.if-index-len.true, c.len.ensures, c.args.blocks.now.ok) in
    values_set c.args.blocks.now.items (c.args.number / 4096) c.index_mut.result.now c.share_page.new.block inside c.index_mut.ensures.value c.share_page.ensures
