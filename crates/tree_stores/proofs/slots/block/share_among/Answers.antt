use Rattle.std.proofs.Common.{◌<◌, ◌/◌, length}
use Rattle.tree_stores.proofs.Blocks.{alike_set}
use Rattle.tree_stores.proofs.slots.block.share_among.Goals as goal

pub returns-then-index-as_slice : goal.returns-then-index-as_slice
returns-then-index-as_slice g c =
    let lt : c.args.place / 64 < length c.args.row.now = rw c.as_slice.ensures.is at c.if-index-as_slice.true in
    alike_set c.args.row.now (c.args.place / 64) c.at.result.now c.share.new.self lt c.at.ensures.value c.share.ensures
