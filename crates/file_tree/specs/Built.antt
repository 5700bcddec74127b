-- For the prover.
-- what a tree is that was built of starting objects, so far: the prover's own words, which no contract names
use Rattle.std.specs.Prelude.{◌≡◌, ◌≤◌, ◌<◌, ◌⊎◌, ◌+◌, ◌^◌, ℕ, List, [], length, slice_get, Some}
use Rattle.std.specs.List.{Contains}
use Rattle.std.specs.FinMap as map
use Rattle.nfs3_types.specs.Limits.{file_limit}
use Rattle.tree_starts.specs.declared.object.StartObject.{StartObject}
use Rattle.tree_starts.specs.declared.object.StartNode.{StartNode}
use Rattle.tree_starts.specs.declared.object.StartNode.TheVariants as nodes
use Rattle.tree_nodes.specs.declared.node.Node.{Node}
use Rattle.tree_nodes.specs.Tree.{Names, Tree, entry_of}
use Rattle.file_tree.specs.StartTree.{Sits, directory_node}

-- the bytes are within the limits
abbrev pub Fits : StartNode → Type 0
Fits (nodes.File bytes) = length bytes ≤ file_limit
Fits nodes.Directory = Unit {0}
Fits (nodes.Link text) = length text < 2 ^ 32

abbrev pub IsFree : List StartObject → ℕ → List ℕ → Type 0
IsFree objects parent name = (o : StartObject) → Contains objects o → o.parent ≡ parent → o.name ≡ name → ⊥

-- a directory that lies ahead
abbrev pub IsParent : List StartObject → ℕ → Type 0
IsParent objects number = (k : ℕ) × (o : StartObject) × (slice_get objects k ≡ Some o) × (number ≡ k + 1) × (o.node ≡ nodes.Directory)

-- the object may stand behind these
pub record MayStart (ahead : List StartObject) (o : StartObject) : Type 0 where
  pub inside : (o.parent ≡ 0) ⊎ IsParent ahead o.parent
  pub free : IsFree ahead o.parent o.name
  pub short : length o.name < 2 ^ 32
  pub fits : Fits o.node

-- what stands is the root or one of these
pub record Comes (tree : Tree) (objects : List StartObject) (p : Names) (x : Node) : Type 0 where
  pub o : StartObject
  pub listed : Contains objects o
  pub sits : Sits tree x.object o
  pub at : entry_of tree x.object ≡ Some (p, x)

abbrev pub Covered : Tree → List StartObject → Type 0
Covered tree objects = (p : Names) (x : Node) → map.get tree p ≡ Some x → (p ≡ []) ⊎ Comes tree objects p x

pub record Built (tree : Tree) (objects : List StartObject) (n : ℕ) : Type 0 where
  pub root : entry_of tree 0 ≡ Some ([], directory_node 0)
  pub once : (p q : Names) (x y : Node) → map.get tree p ≡ Some x → map.get tree q ≡ Some y → x.object ≡ y.object → p ≡ q
  pub few : (p : Names) (x : Node) → map.get tree p ≡ Some x → x.object ≤ n
  pub covered : Covered tree objects
  pub each : (k : ℕ) (o : StartObject) → slice_get objects k ≡ Some o → Sits tree (k + 1) o
  pub all : length objects ≡ n
  pub size : map.len tree ≤ n + 1
