use Rattle.std.proofs.Common.{◌≡◌, take}
use Rattle.std.specs.Prelude.{All}
use Rattle.tree_stores.specs.Paged.{byte_of, HasRoom}
use Rattle.tree_stores.proofs.file_bytes.changes.make_room.Given as goal

-- the bytes are the same, and there is a page for each change so far
abbrev pub invariant-loop-change : goal.invariant-loop-change
invariant-loop-change l =
    (byte_of l.pages ≡ byte_of l.fn.pages) × All (λ change. HasRoom l.pages change.number) (take l.change-index l.changes)
