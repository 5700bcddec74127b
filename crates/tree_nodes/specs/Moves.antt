-- For the prover, and for callers.
-- what stands where after a move, by paths
use Rattle.std.specs.Prelude.{◌≡◌, ◌++◌, Option, None}
use Rattle.tree_nodes.specs.declared.node.Node.{Node}
use Rattle.tree_nodes.specs.Tree.{Names}

-- a path that isn't the one in front, nor below it
abbrev pub IsOutside : Names → Names → Type 0
IsOutside front path = (below : Names) → path ≡ front ++ below → ⊥

-- what stood at p, r stands at q, r, nothing stands from p on, and all else stays
pub record Moves (p q : Names) (before after : Names → Option Node) : Type 0 where
  pub along : (below : Names) → after (q ++ below) ≡ before (p ++ below)
  pub gone : (below : Names) → after (p ++ below) ≡ None
  pub others : (path : Names) → IsOutside p path → IsOutside q path → after path ≡ before path
