-- For the prover, and for callers.
-- what every tree of a run keeps
use Rattle.std.specs.Prelude.{ℕ, ◌≤◌, List, [], ◌∷◌, ◌++◌, IsSome}
use Rattle.std.specs.FinMap as map
use Rattle.tree_nodes.specs.Tree.{Names, Tree}
use Rattle.tree_nodes.specs.Files.{node_limit}

-- the tree is within the limit, and where a path stands, so does the directory's path that it begins with
pub record IsSound (tree : Tree) : Type 0 where
  pub small : map.len tree ≤ node_limit
  pub fronts : (path : Names) (name : List ℕ) → IsSome (map.get tree (path ++ name ∷ [])) → IsSome (map.get tree path)
