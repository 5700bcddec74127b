use Rattle.std.proofs.Common.{◌≡◌, ◌+◌, ◌^◌, ◌<◌, length}
use Rattle.tree_stores.specs.Slots.{entries_from}
use Rattle.tree_stores.proofs.slots.iter.InPage.step.Given as goal

-- only empty slots were passed over
abbrev pub invariant-loop-slot : goal.invariant-loop-slot
invariant-loop-slot g l =
    (l.self-inside.number + length l.self-inside.slots.now < 2 ^ 64) × (entries_from l.self-inside.number l.self-inside.slots.now ≡ l.fn.self)

abbrev pub decreases-loop-slot : goal.decreases-loop-slot
decreases-loop-slot g l = length l.self-inside.slots.now
