-- For the prover, and for callers.
-- where an object lies, and what it is
use Rattle.std.specs.Prelude.{◌≡◌, ◌⊎◌, ℕ, ◌-◌, List, length, drop, Contains, Option, option_and_then, option_map}
use Rattle.tree_nodes.specs.declared.node.Node.{Node}
use Rattle.tree_nodes.specs.Tree.{Names, Tree, entry_of}
use Rattle.tree_nodes.specs.Place.{object_above}

-- the last name of a path, alone; the root has none
abbrev pub own_name : Names → Names
own_name path = drop (length path - 1) path

-- the directory that an object lies in, by its object, its name there, and its node
abbrev pub Spot : Type 0
Spot = ℕ × Names × Node

abbrev pub spot_of : Tree → ℕ → Option Spot
spot_of tree object = option_and_then (λ e. option_map (λ above. (above, own_name e.0, e.1)) (object_above tree object)) (entry_of tree object)

-- each object is among these or those, or lies in both trees in the same place, and is the same there
abbrev pub AreOthersSame : List ℕ → List ℕ → Tree → Tree → Type 0
AreOthersSame objects others one other = (o : ℕ) → Contains objects o ⊎ (Contains others o ⊎ (spot_of one o ≡ spot_of other o))

-- all objects but this one lie in the first tree where they lay in the second, and are the same
abbrev pub OthersStay : ℕ → Tree → Tree → Type 0
OthersStay object after before = (other : ℕ) → (other ≡ object → ⊥) → spot_of after other ≡ spot_of before other
