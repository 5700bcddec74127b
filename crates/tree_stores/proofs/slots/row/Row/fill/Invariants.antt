use Rattle.std.proofs.Common.{◌≡◌, ◌≤◌, ◌-◌, ℕ, length, get_or}
use Rattle.tree_stores.proofs.slots.row.Row.fill.Given as goal

-- only blank values came
abbrev pub invariant-loop-self : goal.invariant-loop-self
invariant-loop-self g l =
    (length l.self-inside.items.items ≤ 64) × (length l.fn.self ≤ length l.self-inside.items.items)
    × ((index : ℕ) → get_or l.self-inside.items.items index g.X.Blank.blank ≡ get_or l.fn.self index g.X.Blank.blank)

abbrev pub decreases-loop-self : goal.decreases-loop-self
decreases-loop-self g l = l.count - length l.self-inside.items.items
