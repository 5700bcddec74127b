use Rattle.std.proofs.Common.{◌≡◌, ◌++◌, map}
use Rattle.tree_stores.specs.Paged.{first_cut}
use Rattle.tree_stores.proofs.Windows.{cut_entry, pages_from}
use Rattle.tree_stores.proofs.file_bytes.pages.cut_pages.Given as goal

-- the pages so far are cut, and those that are left come behind
abbrev pub invariant-loop-number : goal.invariant-loop-number
invariant-loop-number l =
    (goal.iterator-loop-number).can_next l.number-iterator × (goal.iterator-loop-number).is_finite l.number-iterator
    × (l.changes.items ++ map (cut_entry l.size) l.number-iterator ≡ first_cut l.size l.pages.first ++ map (cut_entry l.size) (pages_from l.size l.pages.rest.entries))
