use Rattle.std.proofs.Common.{◌≡◌}
use Rattle.tree_stores.specs.Paged.{byte_of}
use Rattle.tree_stores.proofs.file_bytes.changes.tidy.Given as goal

-- the bytes are the same
abbrev pub invariant-loop-change : goal.invariant-loop-change
invariant-loop-change l = byte_of l.pages ≡ byte_of l.fn.pages
