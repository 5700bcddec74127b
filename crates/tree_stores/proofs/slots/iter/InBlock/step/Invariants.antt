use Rattle.std.proofs.Common.{◌≡◌, ◌+◌, ◌*◌, ◌^◌, ◌<◌, ◌++◌, length}
use Rattle.tree_stores.specs.Pages.{page_entries}
use Rattle.tree_stores.proofs.slots.iter.InBlock.step.Given as goal

-- only pages with no values that are left were passed over
abbrev pub invariant-loop-item : goal.invariant-loop-item
invariant-loop-item g l =
    (l.self-inside.number + 64 * length l.self-inside.pages.now < 2 ^ 64)
    × (l.self-inside.page ++ page_entries l.self-inside.number l.self-inside.pages.now ≡ l.fn.self)

abbrev pub decreases-loop-item : goal.decreases-loop-item
decreases-loop-item g l = length l.self-inside.pages.now
