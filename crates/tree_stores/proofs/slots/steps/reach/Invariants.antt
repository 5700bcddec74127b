use Rattle.std.proofs.Common.{◌≡◌, ◌≤◌, ◌+◌, ◌-◌, ◌^◌, ℕ, length, true}
use Rattle.tree_stores.specs.Pages.{owns, is_set}
use Rattle.tree_stores.specs.Books.{values_of}
use Rattle.tree_stores.proofs.slots.steps.reach.Given as goal

abbrev pub invariant-loop-blocks : goal.invariant-loop-blocks
invariant-loop-blocks g l =
    (values_of l.blocks.items ≡ values_of l.fn.blocks.items) × (length l.blocks.items ≤ 2 ^ 51)
    × ((other : ℕ) → is_set (owns l.fn.blocks.items) other ≡ true → is_set (owns l.blocks.items) other ≡ true)

abbrev pub decreases-loop-blocks : goal.decreases-loop-blocks
decreases-loop-blocks g l = l.index + 1 - length l.blocks.items
