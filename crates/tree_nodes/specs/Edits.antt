-- For the prover.
-- changes of a file's bytes
use Rattle.std.specs.Prelude.{ℕ, ◌+◌, ◌≤◌, List, length}
use Rattle.tree_stores.specs.nfs3_types_specs.Limits.{file_limit}
use Rattle.tree_nodes.specs.declared.table.Edit.{Edit}
use Rattle.tree_nodes.specs.declared.table.Edit.TheVariants.{Write, Resize}
use Rattle.tree_stores.specs.Files.{written, resized}

abbrev pub edited : Edit → List ℕ → List ℕ
edited (Write offset added) bytes = written bytes offset added.now
edited (Resize size) bytes = resized bytes size

abbrev pub IsWithin : Edit → Type 0
IsWithin (Write offset added) = offset + length added.now ≤ file_limit
IsWithin (Resize size) = size ≤ file_limit
