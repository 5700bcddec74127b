-- For the prover.
-- a change of a tree, as what is to be done with objects
use Rattle.std.specs.Prelude.{◌≡◌, ◌≤◌, ◌<◌, ◌^◌, ℕ, ⊤, true, false, List, [], ◌∷◌, ◌++◌, length, Result, Ok, Err, Option, Some, None}
use Rattle.std.specs.FinMap as map
use Rattle.replay_law.specs.declared.replay.StepFault.{StepFault}
use Rattle.replay_law.specs.declared.replay.StepFault.TheVariants.{NotAllowed, NoMemory}
use Rattle.nfs3_types.specs.Limits.{file_limit}
use Rattle.tree_nodes.specs.declared.node.Node.{Node}
use Rattle.tree_nodes.specs.declared.node.File.{File}
use Rattle.tree_nodes.specs.declared.node.Content.TheVariants as contents
use Rattle.tree_nodes.specs.Tree.{Names, Tree, entry_of, same_path, is_bare}
use Rattle.tree_nodes.specs.Files.{node_limit, file_node}
use Rattle.tree_stores.specs.Files.{resized, written}
use Rattle.tree_nodes.specs.Moved.{is_from}
use Rattle.tree_nodes.specs.Place.{node_in}
use Rattle.file_tree.specs.Change.{Change}
use Rattle.file_tree.specs.Change.Change.{Keep, Put, Remove, Move}
use Rattle.file_tree.specs.declared.object_change.ObjectChange.{ObjectChange}
use Rattle.file_tree.specs.declared.object_change.ObjectChange.TheVariants as of_objects

-- a name that is free in a directory gets a node with an object number that is free
pub record Makes (tree : Tree) (directory : ℕ) (name : List ℕ) (node : Node) (change : Change) : Type 0 where
  pub entry : Names × Node
  pub stands : entry_of tree directory ≡ Some entry
  pub is : change ≡ Put (entry.0 ++ name ∷ []) node
  pub free : node_in tree directory name ≡ None
  pub unused : entry_of tree node.object ≡ None
  pub room : map.len tree < node_limit
  pub short : length name < 2 ^ 32

-- a file's bytes are others
pub record Fills (tree : Tree) (object : ℕ) (after : List ℕ → List ℕ) (change : Change) : Type 0 where
  pub path : Names
  pub file : File
  pub stands : entry_of tree object ≡ Some (path, record { object = object; content = contents.File file })
  pub is : change ≡ Put path (file_node object (after file.bytes) file.verifier)
  pub fits : length (after file.bytes) ≤ file_limit

-- an entry goes that has nothing below it
pub record Takes (tree : Tree) (object : ℕ) (change : Change) : Type 0 where
  pub entry : Names × Node
  pub stands : entry_of tree object ≡ Some entry
  pub is : change ≡ Remove entry.0
  pub bare : is_bare tree entry.0 ≡ true
  pub below : entry.0 ≡ [] → ⊥

-- an entry goes to another name
pub record Moves (tree : Tree) (object directory : ℕ) (name : List ℕ) (change : Change) : Type 0 where
  pub entry : Names × Node
  pub stands : entry_of tree object ≡ Some entry
  pub target : Names × Node
  pub leads : entry_of tree directory ≡ Some target
  pub is : change ≡ Move entry.0 (target.0 ++ name ∷ [])
  pub other : same_path entry.0 (target.0 ++ name ∷ []) ≡ false
  pub outside : is_from (target.0 ++ name ∷ []) entry.0 ≡ false
  pub bare : is_bare tree (target.0 ++ name ∷ []) ≡ true
  pub short : length name < 2 ^ 32

-- what is done with objects is this change
abbrev pub Does : Tree → ObjectChange → Change → Type 0
Does tree of_objects.Keep change = change ≡ Keep
Does tree (of_objects.Make directory name node) change = Makes tree directory name.now node change
Does tree (of_objects.Write object offset bytes) change = Fills tree object (λ old. written old offset bytes.now) change
Does tree (of_objects.Resize object size) change = Fills tree object (λ old. resized old size) change
Does tree (of_objects.Remove object) change = Takes tree object change
Does tree (of_objects.Rename object directory name) change = Moves tree object directory name.now change

-- the plan of the change where there is one, `NotAllowed` where there is none; only the want of memory says nothing
abbrev pub Plans : Tree → Result ObjectChange StepFault → Option Change → Type 0
Plans tree (Ok plan) value = (change : Change) × (value ≡ Some change) × Does tree plan change
Plans tree (Err NotAllowed) value = value ≡ None
Plans tree (Err NoMemory) value = ⊤
