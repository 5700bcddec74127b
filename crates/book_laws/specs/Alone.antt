-- For the prover, and for callers.
-- A journal's records are all that a server needs of its past, beside what it held at first.
use Rattle.tree_starts.specs.Start.{IsStart}
use Rattle.tree_starts.specs.declared.object.StartObject.{StartObject}
use Rattle.tree_starts.specs.declared.profile.Profile.{Profile}
use Rattle.std.specs.Prelude.{◌≡◌, ℕ, List, Some}
use Rattle.std.specs.List.{AllByRecursion}
use Rattle.tree_nodes.specs.Tree.{Tree}
use Rattle.book_laws.specs.Book.{Book, tree_of}
use Rattle.book_laws.specs.Steps.{opening_book, IsRun}
use Rattle.journal.specs.Rebuilding.{Rebuilds}

-- the device's records lead to the book's tree, from what stood at first
abbrev pub GivesTheTree : Book → Type 0
GivesTheTree book = (tree : Tree) → tree_of book ≡ Some tree → Rebuilds book.history.known.head.profile book.history.known.head.start book.device.records tree

abbrev pub AJournalAloneGivesTheTree : Type 0
AJournalAloneGivesTheTree =
    (profile : Profile) (start : List StartObject) (faults : ℕ) (books : List Book) → IsStart start → IsRun (opening_book profile start faults) books
    → GivesTheTree (opening_book profile start faults) × AllByRecursion GivesTheTree books
