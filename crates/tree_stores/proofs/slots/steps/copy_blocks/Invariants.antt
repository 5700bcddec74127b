use Rattle.std.proofs.Common.{◌≡◌, take}
use Rattle.tree_stores.proofs.slots.steps.copy_blocks.Given as goal

-- the copies so far are the blocks so far
abbrev pub invariant-loop-block : goal.invariant-loop-block
invariant-loop-block g l = l.copies.items ≡ take l.block-index l.blocks
