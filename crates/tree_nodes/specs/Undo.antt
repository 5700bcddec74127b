-- For the prover, and for callers.
-- taking a change of a tree back
use Rattle.std.specs.Prelude.{◌≡◌, ◌<◌, ℕ, true, List, [], ◌∷◌, ◌++◌, Option, Some, None}
use Rattle.std.specs.FinMap as map
use Rattle.tree_nodes.specs.declared.node.Node.{Node}
use Rattle.tree_nodes.specs.declared.node.File.{File}
use Rattle.tree_nodes.specs.declared.node.Content.TheVariants as contents
use Rattle.tree_stores.specs.declared.file_bytes.changes.FileUndo.{FileUndo}
use Rattle.tree_nodes.specs.declared.table.Entry.{Entry}
use Rattle.tree_nodes.specs.declared.undo.Undo.{Undo}
use Rattle.tree_nodes.specs.declared.undo.Move.{Move}
use Rattle.tree_nodes.specs.declared.undo.Step.{Step}
use Rattle.tree_nodes.specs.declared.undo.Step.TheVariants.{Nothing, Made, Removed, Edited, Moved}
use Rattle.tree_nodes.specs.Tree.{Names, Tree, entry_of, is_bare}
use Rattle.tree_nodes.specs.Files.{node_limit, file_node}
use Rattle.tree_stores.specs.Undo.{Restores}
use Rattle.tree_nodes.specs.Moves.{IsOutside, Moves}

-- the tree without an object that was put
pub record IsUnmade (object : ℕ) (after before : Tree) : Type 0 where
  pub entry : Names × Node
  pub stands : entry_of after object ≡ Some entry
  pub isnt_root : object ≡ 0 → ⊥
  pub bare : is_bare after entry.0 ≡ true
  pub gives : before ≡ map.remove after entry.0

-- the tree with an object that was taken away
pub record IsPutBack (entry : Entry) (after before : Tree) : Type 0 where
  pub directory : Names × Node
  pub stands : entry_of after entry.parent ≡ Some directory
  pub new : entry_of after entry.body.node.object ≡ None
  pub free : map.get after (directory.0 ++ entry.body.name ∷ []) ≡ None
  pub room : map.len after < node_limit
  pub gives : before ≡ map.insert after (directory.0 ++ entry.body.name ∷ []) entry.body.node

-- the tree with the bytes that a file had
pub record IsEditedBack (object : ℕ) (undo : FileUndo) (after before : Tree) : Type 0 where
  pub entry : Names × Node
  pub file : File
  pub bytes : List ℕ
  pub stands : entry_of after object ≡ Some entry
  pub holds : entry.1.content ≡ contents.File file
  pub restores : Restores undo file.bytes bytes
  pub gives : before ≡ map.insert after entry.0 (file_node object bytes file.verifier)

-- what had been displaced stands again
abbrev pub GivesBack : Option Entry → Tree → Tree → Type 0
GivesBack None between before = between ≡ before
GivesBack (Some entry) between before = IsPutBack entry between before

-- the tree with an object where it lay
pub record IsMovedBack (move : Move) (after before : Tree) : Type 0 where
  pub entry : Names × Node
  pub directory : Names × Node
  pub between : Tree
  pub stands : entry_of after move.object ≡ Some entry
  pub stood_in : entry_of after move.place.parent ≡ Some directory
  pub outside : IsOutside entry.0 directory.0
  pub moves : Moves (directory.0 ++ move.place.name ∷ []) entry.0 (map.get between) (map.get after)
  pub free : (below : Names) → map.get between (entry.0 ++ below) ≡ None
  pub displaced : GivesBack move.displaced between before

abbrev pub StepsBack : Step → Tree → Tree → Type 0
StepsBack Nothing after before = after ≡ before
StepsBack (Made object) after before = IsUnmade object after before
StepsBack (Removed entry) after before = IsPutBack entry after before
StepsBack (Edited object undo) after before = IsEditedBack object undo after before
StepsBack (Moved move) after before = IsMovedBack move after before

-- the value takes the tree after a change back to the one before
unfoldable pub TakesBack : Undo → Tree → Tree → Type 0
TakesBack undo after before = StepsBack undo.step after before

-- ---- for the prover, and for callers

abbrev pub displaced_nodes : Option Entry → ℕ
displaced_nodes None = 0
displaced_nodes (Some entry) = 1

abbrev pub step_nodes : Step → ℕ
step_nodes Nothing = 0
step_nodes (Made object) = 0
step_nodes (Removed entry) = 1
step_nodes (Edited object undo) = 0
step_nodes (Moved move) = displaced_nodes move.displaced

-- how many nodes the value of a change holds: what the change took away
abbrev pub held_nodes : Undo → ℕ
held_nodes undo = step_nodes undo.step
