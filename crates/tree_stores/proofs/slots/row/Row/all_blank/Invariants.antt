use Rattle.std.proofs.Common.{◌≡◌, ◌<◌, ℕ, get_or}
use Rattle.tree_stores.proofs.slots.row.Row.all_blank.Given as goal

-- the values so far are blank
abbrev pub invariant-loop-item : goal.invariant-loop-item
invariant-loop-item g l = (place : ℕ) → place < l.item-index → get_or l.item-items place g.X.Blank.blank ≡ g.X.Blank.blank
