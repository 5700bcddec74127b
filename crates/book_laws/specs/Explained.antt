-- For the prover, and for callers.
-- Every state of a book proves itself: its own certificate is a witness of its own history.
use Rattle.std.specs.Prelude.{ℕ, List, IsSome}
use Rattle.std.specs.List.{AllByRecursion}
use Rattle.tree_starts.specs.Start.{IsStart}
use Rattle.tree_starts.specs.declared.object.StartObject.{StartObject}
use Rattle.tree_starts.specs.declared.profile.Profile.{Profile}
use Rattle.nfs_history.specs.History.{IsHistory, recording_of}
use Rattle.witness_check.specs.Witness.{IsWitness}
use Rattle.book_laws.specs.Book.{Book, tree_of}
use Rattle.book_laws.specs.Plan.{plan_of}
use Rattle.book_laws.specs.Steps.{opening_book, IsRun}

pub record IsExplained (book : Book) : Type 0 where
  -- what it recorded is a history
  pub history : IsHistory (recording_of book.history) book.history
  -- and its certificate is a witness of it
  pub witness : IsWitness book.history.known (plan_of book)
  -- what it keeps leads to a tree, in which the next call can be placed
  pub tree : IsSome (tree_of book)

-- whatever stood at first and however strictly it is judged, and whatever steps it takes, with crashes, survivors, faults of the device and
-- refusals between them
abbrev pub EveryBookIsExplained : Type 0
EveryBookIsExplained =
    (profile : Profile) (start : List StartObject) (faults : ℕ) (books : List Book) → IsStart start → IsRun (opening_book profile start faults) books
    → IsExplained (opening_book profile start faults) × AllByRecursion IsExplained books
