-- Believed.
-- the tree of what a server held at first, object by object (this project's own; RFC 1813, section 2.6)
use Rattle.std.specs.Prelude.{◌≡◌, ℕ, ◌+◌, List, [], ◌∷◌, ◌++◌, Some, None}
use Rattle.std.specs.Option.{option_map_or}
use Rattle.std.specs.FinMap as map
use Rattle.tree_starts.specs.declared.object.StartObject.{StartObject}
use Rattle.tree_starts.specs.declared.object.StartNode.{StartNode}
use Rattle.tree_starts.specs.declared.object.StartNode.TheVariants as nodes
use Rattle.tree_nodes.specs.declared.node.Node.{Node}
use Rattle.tree_nodes.specs.declared.node.Content.{Content}
use Rattle.tree_nodes.specs.declared.node.Content.TheVariants as contents
use Rattle.tree_nodes.specs.Tree.{Names, Tree, opening, entry_of}

-- what an object is: a file was made by no exclusive CREATE
abbrev pub content_of : StartNode → Content
content_of (nodes.File bytes) = contents.File (record { bytes = bytes; verifier = None })
content_of nodes.Directory = contents.Directory
content_of (nodes.Link text) = contents.Link text

abbrev pub start_node : ℕ → StartObject → Node
start_node number o = record { object = number; content = content_of o.node }

-- the tree with one object more, in the directory that it lies in
abbrev pub with_object : Tree → ℕ → StartObject → Tree
with_object tree number o = option_map_or (λ e. map.insert tree (e.0 ++ o.name ∷ []) (start_node number o)) (entry_of tree o.parent) tree

-- the tree with these objects more, behind so many
abbrev pub start_from : Tree → ℕ → List StartObject → Tree
start_from tree n [] = tree
start_from tree n (o ∷ objects) = start_from (with_object tree (n + 1) o) (n + 1) objects

-- the tree of a start: the root, and each object in its directory
abbrev pub start_tree : List StartObject → Tree
start_tree objects = start_from opening 0 objects

-- ---- for the prover, and for callers

abbrev pub directory_node : ℕ → Node
directory_node number = record { object = number; content = contents.Directory }

-- object k stands where it says: in its directory, with its name
pub record Sits (tree : Tree) (k : ℕ) (o : StartObject) : Type 0 where
  pub path : Names
  pub above : entry_of tree o.parent ≡ Some (path, directory_node o.parent)
  pub here : entry_of tree k ≡ Some (path ++ o.name ∷ [], start_node k o)
