use Rattle.tree_stores.specs.Shows.{AllShown}
use Rattle.tree_stores.proofs.file_bytes.pages.Pages.shows.Given as goal

-- where those that are left show what the others have, all do
abbrev pub invariant-loop-number : goal.invariant-loop-number
invariant-loop-number l =
    (goal.iterator-loop-number).can_next l.number-iterator × (goal.iterator-loop-number).is_finite l.number-iterator
    × (AllShown l.others l.number-iterator → AllShown l.others l.self.rest.entries)
