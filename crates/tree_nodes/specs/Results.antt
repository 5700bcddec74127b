-- For the prover.
-- what a change of the table gives, with what takes it back
use Rattle.std.specs.Prelude.{◌≡◌, ℕ, ◌+◌, List, Some}
use Rattle.std.specs.FinMap as map
use Rattle.tree_nodes.specs.declared.node.Node.{Node}
use Rattle.tree_nodes.specs.declared.node.File.{File}
use Rattle.tree_nodes.specs.declared.node.Content.TheVariants as contents
use Rattle.tree_stores.specs.declared.file_bytes.changes.FileUndo.{FileUndo}
use Rattle.tree_nodes.specs.declared.table.Edit.{Edit}
use Rattle.tree_nodes.specs.declared.table.Entry.{Entry}
use Rattle.tree_nodes.specs.declared.undo.Undo.{Undo}
use Rattle.tree_nodes.specs.declared.undo.Move.{Move}
use Rattle.tree_nodes.specs.declared.undo.Step.TheVariants.{Made, Removed, Edited, Moved}
use Rattle.tree_nodes.specs.Files.{file_node}
use Rattle.tree_stores.specs.Undo.{Restores}
use Rattle.tree_nodes.specs.Edits.{edited}
use Rattle.tree_nodes.specs.Walk.{Held}
use Rattle.tree_nodes.specs.Changes.{Adds, Cuts, Sets}
use Rattle.tree_nodes.specs.Table.{Table, child, held, placed}
use Rattle.tree_nodes.specs.Renames.{IsRenamed}

-- an object more
pub record IsMade (directory : ℕ) (name : List ℕ) (node : Node) (undo : Undo) (before after : Table) : Type 0 where
  pub step : undo.step ≡ Made node.object
  pub adds : Adds directory name node.object node (child before) (child after) (held before) (held after)
  pub len : map.len after ≡ map.len before + 1

-- a file with other bytes
pub record IsEdited (object : ℕ) (edit : Edit) (undo : Undo) (before after : Table) : Type 0 where
  pub file : FileUndo
  pub step : undo.step ≡ Edited object file
  pub sets : (h : Held) (was : File) → held before object ≡ Some h → h.2.content ≡ contents.File was
      → Sets object (file_node h.2.object (edited edit was.bytes) was.verifier) (child before) (child after) (held before) (held after)
  pub restores : (h : Held) (was : File) → held before object ≡ Some h → h.2.content ≡ contents.File was → Restores file (edited edit was.bytes) was.bytes
  pub len : map.len after ≡ map.len before

-- an object under another name
pub record IsMoved (object directory : ℕ) (name : List ℕ) (undo : Undo) (before after : Table) : Type 0 where
  pub move : Move
  pub step : undo.step ≡ Moved move
  pub renamed : IsRenamed object directory name move before after

-- an object less
pub record IsRemoved (object : ℕ) (undo : Undo) (before after : Table) : Type 0 where
  pub entry : Entry
  pub step : undo ≡ record { step = Removed entry }
  pub stood : held before object ≡ Some (placed entry)
  pub cuts : Cuts entry.parent entry.body.name object (child before) (child after) (held before) (held after)
  pub len : map.len after + 1 ≡ map.len before
