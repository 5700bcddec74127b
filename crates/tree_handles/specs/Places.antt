-- For the prover.
-- where handles stand in a table: each has a number for good, among the short ones or among the long ones
use Rattle.std.specs.Prelude.{◌≡◌, ◌==◌, ℕ, Bool, List, [], ◌∷◌, ◌++◌, Option, nat_le, length, position, get_or, if◌then◌else◌}
use Rattle.tree_handles.specs.Binding.{same_bytes}

-- the handles that have a place, in the order of their places
pub record Handles : Type 0 where
  pub short : List (List ℕ)
  pub long : List (List ℕ)

-- whether a handle is a short one
abbrev pub is_short : List ℕ → Bool
is_short handle = nat_le (length handle) 31

-- which of two it is that belongs to handles of this one's length
abbrev pub of_length : {X : Type 0} → List ℕ → X → X → X
of_length handle short long = if is_short handle then short else long

abbrev pub place_of : Handles → List ℕ → Option ℕ
place_of handles handle = position (same_bytes handle) (of_length handle handles.short handles.long)

-- with a handle more
abbrev pub with_handle : Handles → List ℕ → Handles
with_handle handles handle = if is_short handle then record handles { short = handles.short ++ handle ∷ [] } else record handles { long = handles.long ++ handle ∷ [] }

-- a handle has the next place
abbrev pub TakesPlace : Handles → Handles → List ℕ → ℕ → Type 0
TakesPlace before after handle place = (after ≡ with_handle before handle) × (place ≡ of_length handle (length before.short) (length before.long))

-- a list that is taken to go on with one item, after a write
abbrev pub Rewrites : {X : Type 0} → X → List X → List X → ℕ → X → Type 0
Rewrites rest before after place item = (other : ℕ) → get_or after other rest ≡ (if other == place then item else get_or before other rest)
