use Rattle.std.proofs.Common.{◌≡◌, take}
use Rattle.tree_stores.proofs.slots.row.RowCopied.copied.Given as goal

-- the copies so far are the values so far
abbrev pub invariant-loop-item : goal.invariant-loop-item
invariant-loop-item g l = l.items.items ≡ take l.item-index l.item-items
