-- For the prover, and for callers.
-- the tree of what a server held at first: RFC 1813, section 2.6
use Rattle.std.specs.Prelude.{◌≡◌, ◌⊎◌, ℕ, ◌+◌, ◌<◌, List, [], length, slice_get, Some, None}
use Rattle.std.specs.FinMap as map
use Rattle.tree_starts.specs.Start.{IsStart}
use Rattle.tree_starts.specs.declared.object.StartObject.{StartObject}
use Rattle.tree_nodes.specs.declared.node.Node.{Node}
use Rattle.tree_nodes.specs.Tree.{Names, entry_of}
use Rattle.file_tree.specs.StartTree.{start_node, start_tree, Sits}
use Rattle.tree_laws.specs.WellFormed.{IsWellFormed}

-- it is well formed
abbrev pub StartIsFormed : Type 0
StartIsFormed = (start : List StartObject) → IsStart start → IsWellFormed (start_tree start)

-- each starting object stands in it where it says: in its directory, with its name, and as what it is
abbrev pub EachStands : Type 0
EachStands = (start : List StartObject) (k : ℕ) (o : StartObject) → IsStart start → slice_get start k ≡ Some o → Sits (start_tree start) (k + 1) o

-- one of the starting objects is this node
pub record IsOneOf (start : List StartObject) (node : Node) : Type 0 where
  pub k : ℕ
  pub o : StartObject
  pub listed : slice_get start k ≡ Some o
  pub is : node ≡ start_node (k + 1) o

-- and nothing but these and the root stands in it
abbrev pub NothingElseStands : Type 0
NothingElseStands = (start : List StartObject) (path : Names) (node : Node) → IsStart start → map.get (start_tree start) path ≡ Some node → (path ≡ []) ⊎ IsOneOf start node

-- so no object that a call makes is there
abbrev pub NoneFurther : Type 0
NoneFurther = (start : List StartObject) (object : ℕ) → IsStart start → length start < object → entry_of (start_tree start) object ≡ None
