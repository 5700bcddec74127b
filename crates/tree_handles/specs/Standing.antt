-- For the prover.
-- the path of an object that stands
use Rattle.std.specs.Prelude.{ℕ, [], unwrap_or}
use Rattle.tree_nodes.specs.Tree.{Names, Tree}
use Rattle.tree_nodes.specs.Place.{path_of}

-- of one that doesn't, it counts for nothing
abbrev pub place_of : Tree → ℕ → Names
place_of tree object = unwrap_or (path_of tree object) []
