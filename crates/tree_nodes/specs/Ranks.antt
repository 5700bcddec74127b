-- For the prover.
-- ranks that rise from objects to the directories that they lie in
use Rattle.std.specs.Prelude.{◌≡◌, ◌<◌, ◌≤◌, ◌-◌, ◌⊎◌, ℕ, nat_lt, Some, slice_index_or, if◌then◌else◌}
use Rattle.tree_nodes.specs.declared.ranks.Ranks.{Ranks}
use Rattle.tree_nodes.specs.declared.ranks.TheConstants.{TOP}
use Rattle.tree_nodes.specs.Walk.{Held, Holds}

-- the rank of an object; one that has none has the top one
abbrev pub rank_of : Ranks → ℕ → ℕ
rank_of ranks object = if nat_lt object ranks.first then TOP else slice_index_or ranks.ranks.items (object - ranks.first) TOP

-- a rank is below another one, or that one is the top one
abbrev pub IsUnder : ℕ → ℕ → Type 0
IsUnder rank other = (rank < other) ⊎ (TOP ≤ other)

-- each object's rank is under that of the directory that it lies in
abbrev pub IsRanked : Holds → (ℕ → ℕ) → Type 0
IsRanked holds rank = (object : ℕ) (h : Held) → holds object ≡ Some h → (h.0 ≡ object → ⊥) → IsUnder (rank object) (rank h.0)

-- but for this directory, of which it is said what rank it needs
abbrev pub IsRankedBut : Holds → (ℕ → ℕ) → ℕ → ℕ → Type 0
IsRankedBut holds rank directory least =
    (object : ℕ) (h : Held) → holds object ≡ Some h → (h.0 ≡ object → ⊥) → IsUnder (rank object) (rank h.0) ⊎ ((h.0 ≡ directory) × IsUnder (rank object) least)
