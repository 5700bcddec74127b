-- Believed.
-- names in directories: RFC 1813, section 3.2 and section 3.3.3
use Rattle.std.specs.Prelude.{if◌then◌else◌, List, ℕ, [], ◌∷◌, ◌++◌, Option, None, option_and_then, option_map}
use Rattle.std.specs.FinMap as map
use Rattle.nfs3_types.specs.declared.calls.DirectoryName.{DirectoryName}
use Rattle.tree_nodes.specs.declared.node.Node.{Node}
use Rattle.tree_nodes.specs.Tree.{Names, Tree}
use Rattle.tree_starts.specs.Names.{is_plain}
use Rattle.tree_handles.specs.Binding.{Bindings}
use Rattle.tree_handles.specs.Live.{directory_of}

-- the node of this name in the directory at this path; `.`, `..` and the empty name are no entries
abbrev pub entry_at : Tree → Names → List ℕ → Option Node
entry_at tree directory name = if is_plain name then map.get tree (directory ++ name ∷ []) else None

-- where the entry stands that a call names, with its node: only in a live directory
abbrev pub named : Bindings → Tree → DirectoryName → Option (Names × Node)
named binds tree place =
    option_and_then (λ directory. option_map (λ node. (directory ++ place.name ∷ [], node)) (entry_at tree directory place.name)) (directory_of binds tree place.directory)
