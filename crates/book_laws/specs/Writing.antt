-- For the prover, and for callers.
-- The certificate of a book is one that can be written (what a certificate keeps to is this project's own format).
use Rattle.tree_starts.specs.Start.{IsStart}
use Rattle.tree_starts.specs.declared.object.StartObject.{StartObject}
use Rattle.tree_starts.specs.declared.profile.Profile.{Profile}
use Rattle.std.specs.Prelude.{ℕ, List}
use Rattle.std.specs.List.{AllByRecursion}
use Rattle.certificate.specs.CertificateText.{IsCertificate}
use Rattle.book_laws.specs.Book.{Book}
use Rattle.book_laws.specs.Plan.{plan_of}
use Rattle.book_laws.specs.Steps.{opening_book, IsRun}

-- the book's certificate keeps to what a certificate keeps to
abbrev pub CanBeWritten : Book → Type 0
CanBeWritten book = IsCertificate (plan_of book)

-- ahead of all steps and after each
abbrev pub EveryCertificateCanBeWritten : Type 0
EveryCertificateCanBeWritten =
    (profile : Profile) (start : List StartObject) (faults : ℕ) (books : List Book) → IsStart start → IsRun (opening_book profile start faults) books
    → CanBeWritten (opening_book profile start faults) × AllByRecursion CanBeWritten books
