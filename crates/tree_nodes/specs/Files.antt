-- Believed.
-- a file, and the limit of a tree
use Rattle.std.specs.Prelude.{ℕ, List, Option}
use Rattle.tree_stores.specs.nfs3_types_specs.declared.attributes.Verifier.{Verifier}
use Rattle.tree_nodes.specs.declared.node.Node.{Node}
use Rattle.tree_nodes.specs.declared.node.Content.TheVariants as contents

-- the most nodes of a tree that a success may leave: this project's limit
abbrev pub node_limit : ℕ
node_limit = 4294967295

-- a file with these bytes
abbrev pub file_node : ℕ → List ℕ → Option Verifier → Node
file_node object bytes verifier = record { object = object; content = contents.File (record { bytes = bytes; verifier = verifier }) }
