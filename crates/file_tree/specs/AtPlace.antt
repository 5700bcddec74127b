-- For the prover.
-- a change at the place that a call names: what the code says to the prover
use Rattle.std.specs.Prelude.{◌≡◌, ◌⊎◌, [], ◌∷◌, ◌++◌, Some, true}
use Rattle.nfs3_types.specs.declared.calls.DirectoryName.{DirectoryName}
use Rattle.tree_nodes.specs.declared.node.Node.{Node}
use Rattle.tree_nodes.specs.Tree.{Names, Tree}
use Rattle.tree_answers.specs.tree_handles_specs.Binding.{Bindings}
use Rattle.tree_answers.specs.tree_handles_specs.Live.{directory_of}
use Rattle.tree_starts.specs.Names.{is_plain}
use Rattle.file_tree.specs.Change.{Change}
use Rattle.file_tree.specs.Change.Change.{Keep, Put}

-- a node comes to a plain name of the directory that the place's handle names
pub record PutsAt (binds : Bindings) (tree : Tree) (place : DirectoryName) (change : Change) : Type 0 where
  pub directory : Names
  pub node : Node
  pub leads : directory_of binds tree place.directory ≡ Some directory
  pub plain : is_plain place.name ≡ true
  pub is : change ≡ Put (directory ++ place.name ∷ []) node

-- the tree stays, or that is all that changes
abbrev pub IsAtPlace : Bindings → Tree → DirectoryName → Change → Type 0
IsAtPlace binds tree place change = (change ≡ Keep) ⊎ PutsAt binds tree place change
