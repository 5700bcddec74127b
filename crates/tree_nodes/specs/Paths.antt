-- For the prover.
-- objects with their paths
use Rattle.std.specs.Prelude.{◌≡◌, ℕ, List, [], ◌∷◌, ◌++◌, Option, Some, None, map}
use Rattle.tree_nodes.specs.declared.node.Node.{Node}
use Rattle.tree_nodes.specs.Tree.{Names, Tree, entry_of}

-- the paths of entries, each with its object's number
abbrev pub paths_of : List (Names × Node) → List (Names × ℕ)
paths_of entries = map (λ e. (e.0, e.1.object)) entries

-- what lies at a path lies in this directory under this name
abbrev pub LiesIn : Tree → Names → Option (ℕ × List ℕ) → Type 0
LiesIn tree path None = ⊥
LiesIn tree path (Some place) = (directory : Names × Node) × (entry_of tree place.0 ≡ Some directory) × (path ≡ directory.0 ++ place.1 ∷ [])
