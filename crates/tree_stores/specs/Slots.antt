-- For the prover.
-- what a contract sees of slots
use Rattle.std.specs.Prelude.{ℕ, ◌+◌, List, [], ◌∷◌, Option, Some, None}
use Rattle.std.specs.Ordering.{nat_cmp}
use Rattle.std.specs.FinMap as map
use Rattle.tree_stores.specs.declared.slots.slot.Slot.{Slot}
use Rattle.tree_stores.specs.declared.slots.slot.Slot.TheVariants.{Empty, Filled}

module _ {V : Type 0} where
  -- the value of a slot, where it has one
  abbrev pub value_of : Slot V → Option V
  value_of Empty = None
  value_of (Filled value) = Some value

  -- the values of slots with their numbers, where the first slot has this number
  abbrev pub entries_from : ℕ → List (Slot V) → List (ℕ × V)
  entries_from number [] = []
  entries_from number (Empty ∷ rest) = entries_from (number + 1) rest
  entries_from number (Filled value ∷ rest) = (number, value) ∷ entries_from (number + 1) rest

  -- the map from numbers to values
  abbrev pub map_of : List (Slot V) → map.FinMap nat_cmp V
  map_of slots = map.from_sorted (entries_from 0 slots)
