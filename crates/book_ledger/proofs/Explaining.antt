-- a book's certificate explains what it recorded
use Rattle.std.proofs.Common.{◌≡◌, List, [], ◌∷◌, Result, Ok, Err, sym, subst}
use Rattle.std.specs.Prelude.{IfOk}
use Rattle.std.specs.List.{AllByRecursion}
use Rattle.certificate.specs.declared.plan.Certificate.{Certificate}
use Rattle.journal.specs.Device.{Device}
use Rattle.witness_check.specs.Witness.{IsWitness}
use Rattle.book_laws.specs.Book.{Book}
use Rattle.book_laws.specs.Plan.{plan_of}
use Rattle.book_laws.specs.Explained.{IsExplained}
use Rattle.book_laws.specs.Steps.{opening_book}
use Rattle.book_laws.specs.ServedPlan.{EachServed, IsServedBook}
use Rattle.book_laws.proofs.EveryReply.{every_reply}
use Rattle.certificate.specs.CertificateText.{IsCertificate}
use Rattle.book_laws.specs.Writing.{CanBeWritten}
use Rattle.book_laws.proofs.Rising.{can_be_written}
use Rattle.book_laws.proofs.EveryBook.{explained}
use Rattle.book_ledger.specs.declared.ledger.Ledger.{Ledger}
use Rattle.book_ledger.specs.Inside.{book_of, AreTied, LeadsTo, IsReached}
use Rattle.book_ledger.proofs.Reaching.{reached_holds}

pub explained_so : (ledger : Ledger) (device : Device) → AreTied ledger device → (o : Book) → book_of ledger device ≡ o → IsExplained o
explained_so ledger device t o is = subst IsExplained is (explained (book_of ledger device) (reached_holds (book_of ledger device) t.reached))

pub explains : {E : Type 0} (o : Book) → IsExplained o → (r : Result Certificate E) → IfOk r (λ c. c ≡ plan_of o) → IfOk r (λ c. IsWitness o.history.known c)
explains o e (Ok c) is = subst (λ (p : Certificate). IsWitness o.history.known p) (sym is) e.witness
explains o e (Err f) is = tt

-- ---- what holds of each book that a run leads to

module _ (Is : Book → Type 0) where
  reached : (first : Book) (books : List Book) (book : Book) → Is first → AllByRecursion Is books → LeadsTo first books book → Is book
  reached first [] book is all leads = subst Is leads is
  reached first (next ∷ books) book is all leads = reached next books book all.0 all.1 leads

-- ---- each of its replies is served

reached_served : (book : Book) → IsReached book → IsServedBook book
reached_served book r =
    let all = every_reply r.profile r.start r.faults r.books r.is_start r.run in
    reached IsServedBook (opening_book r.profile r.start r.faults) r.books book all.0 all.1 r.leads

pub served_so : (ledger : Ledger) (device : Device) → AreTied ledger device → (o : Book) → book_of ledger device ≡ o → IsServedBook o
served_so ledger device t o is = subst IsServedBook is (reached_served (book_of ledger device) t.reached)

pub serves : {E : Type 0} (o : Book) → IsServedBook o → (r : Result Certificate E) → IfOk r (λ c. c ≡ plan_of o) → IfOk r (λ c. EachServed o.history.known c)
serves o e (Ok c) is = subst (λ (p : Certificate). EachServed o.history.known p) (sym is) e
serves o e (Err f) is = tt

-- ---- and it can be written

reached_written : (book : Book) → IsReached book → CanBeWritten book
reached_written book r =
    let all = can_be_written r.profile r.start r.faults r.books r.is_start r.run in
    reached CanBeWritten (opening_book r.profile r.start r.faults) r.books book all.0 all.1 r.leads

pub written_so : (ledger : Ledger) (device : Device) → AreTied ledger device → (o : Book) → book_of ledger device ≡ o → CanBeWritten o
written_so ledger device t o is = subst CanBeWritten is (reached_written (book_of ledger device) t.reached)

pub writes : {E : Type 0} (o : Book) → CanBeWritten o → (r : Result Certificate E) → IfOk r (λ c. c ≡ plan_of o) → IfOk r IsCertificate
writes o e (Ok c) is = subst IsCertificate (sym is) e
writes o e (Err f) is = tt
