-- For the prover, and for callers.
-- what an undo value says of the file after a change and ahead of it
use Rattle.std.specs.Prelude.{ℕ, ◌≡◌, ◌≤◌, List, length, slice_index}
use Rattle.nfs3_types.specs.Limits.{file_limit}
use Rattle.tree_stores.specs.Paged.{changed}
use Rattle.tree_stores.specs.declared.file_bytes.changes.FileUndo.{FileUndo}

-- with its pages and its size the file `after` is the file `before`
pub record Restores (undo : FileUndo) (after before : List ℕ) : Type 0 where
  pub size : length before ≡ undo.size
  pub limit : undo.size ≤ file_limit
  pub bytes : slice_index before ≡ changed undo.changes.items (slice_index after)
