-- For the prover, and for callers.
-- objects by their numbers
use Rattle.std.specs.Prelude.{◌≡◌, [], Some}
use Rattle.std.specs.FinMap as map
use Rattle.tree_nodes.specs.declared.node.Node.{Node}
use Rattle.tree_nodes.specs.Tree.{Names, Tree}

-- the root is object 0, and an object stands at one path at most
pub record IsNumbered (tree : Tree) : Type 0 where
  pub root : (node : Node) × (map.get tree [] ≡ Some node) × (node.object ≡ 0)
  pub once : (p q : Names) (m n : Node) → map.get tree p ≡ Some m → map.get tree q ≡ Some n → m.object ≡ n.object → p ≡ q
