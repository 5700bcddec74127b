-- what each step keeps holds after all of them
use Rattle.tree_starts.specs.Start.{IsStart}
use Rattle.tree_starts.specs.declared.object.StartObject.{StartObject}
use Rattle.tree_starts.specs.declared.profile.Profile.{Profile}
use Rattle.std.proofs.Common.{ℕ, List, [], ◌∷◌}
use Rattle.std.specs.List.{AllByRecursion}
use Rattle.book_laws.specs.Book.{Book}
use Rattle.book_laws.specs.Steps.{Steps, opening_book, IsRun}
use Rattle.book_laws.proofs.Invariant.{IsInvariant}
use Rattle.book_laws.proofs.EveryBook.{opening_holds}
use Rattle.book_laws.proofs.Kept.{kept}

module _ (P Q : Book → Type 0) (on : (book new : Book) → IsInvariant book → P book → Steps book new → P new) (so : (book : Book) → IsInvariant book → P book → Q book) where
  pub along : (book : Book) (books : List Book) → IsInvariant book → P book → IsRun book books → AllByRecursion Q books
  along book [] i p run = tt
  along book (next ∷ books) i p run =
      let after = kept book next i run.0 in
      let more = on book next i p run.0 in
      (so next after more, along next books after more run.1)

  pub from_opening : ((profile : Profile) (start : List StartObject) (faults : ℕ) → IsStart start → P (opening_book profile start faults))
      → (profile : Profile) (start : List StartObject) (faults : ℕ) (books : List Book) → IsStart start → IsRun (opening_book profile start faults) books → Q (opening_book profile start faults) × AllByRecursion Q books
  from_opening opens profile start faults books is run = (
    so (opening_book profile start faults) (opening_holds profile start faults is) (opens profile start faults is),
    along (opening_book profile start faults) books (opening_holds profile start faults is) (opens profile start faults is) run,
  )
