use Rattle.std.proofs.Common.{◌≡◌, ◌+◌, ◌*◌, ◌^◌, ◌<◌, ◌++◌, length}
use Rattle.tree_stores.specs.Pages.{block_entries}
use Rattle.tree_stores.proofs.slots.iter.IterIterator.next.Given as goal

-- only blocks with no values that are left were passed over
abbrev pub invariant-loop-item : goal.invariant-loop-item
invariant-loop-item g l =
    (l.self-inside.number + 4096 * length l.self-inside.blocks.now < 2 ^ 64)
    × (l.self-inside.block ++ block_entries l.self-inside.number l.self-inside.blocks.now ≡ l.fn.self)

abbrev pub decreases-loop-item : goal.decreases-loop-item
decreases-loop-item g l = length l.self-inside.blocks.now
