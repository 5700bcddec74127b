use Rattle.std.proofs.Common.{◌≡◌, ℕ, ◌*◌, ◌/◌}
use Rattle.tree_stores.specs.declared.file_bytes.page.TheConstants.{PAGE}
use Rattle.tree_stores.specs.Paged.{byte_of, changed, overwritten}
use Rattle.tree_stores.proofs.Windows.{between}
use Rattle.tree_stores.proofs.file_bytes.pages.written_pages.Given as goal

-- the pages so far are the write's, whatever stands elsewhere
abbrev pub invariant-loop-number : goal.invariant-loop-number
invariant-loop-number l =
    (g : ℕ → ℕ) → changed l.changes.items g ≡ between (l.offset / PAGE * PAGE) (l.number * PAGE) (overwritten (byte_of l.pages) l.offset l.added) g
