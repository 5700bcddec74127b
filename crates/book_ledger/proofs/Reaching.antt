-- what holds of a book that a run of steps leads to
use Rattle.std.proofs.Common.{◌≡◌, ℕ, ◌-◌, List, [], ◌∷◌, ◌++◌, Some, refl, sym, subst}
use Rattle.std.specs.List.{AllByRecursion}
use Rattle.nfs3_types.specs.declared.calls.NfsCall.{NfsCall}
use Rattle.nfs_history.specs.declared.recorded.Meaning.TheVariants as meanings
use Rattle.nfs_history.specs.declared.recorded.RecordedCall.{RecordedCall}
use Rattle.nfs_history.specs.Precedence.{call_at}
use Rattle.book_laws.specs.Book.{Book}
use Rattle.book_laws.specs.Steps.{Steps, IsRun, opening_book, begun, answered_now}
use Rattle.book_laws.specs.Steps.Steps.{begins, places, flushes, answers, closes, crashes, refuses}
use Rattle.book_laws.proofs.Lists.{all_append}
use Rattle.book_laws.proofs.Moving.{all_changed, call_has}
use Rattle.book_laws.proofs.Invariant.{IsInvariant}
use Rattle.book_laws.proofs.EveryBook.{opening_holds}
use Rattle.book_laws.proofs.Kept.{kept}
use Rattle.book_ledger.specs.Inside.{LeadsTo, IsReached, IsAsked}

pub reached_holds : (book : Book) → IsReached book → IsInvariant book
reached_holds book r = go (opening_book r.profile r.start r.faults) r.books (opening_holds r.profile r.start r.faults r.is_start) r.run r.leads where
  go : (first : Book) (books : List Book) → IsInvariant first → IsRun first books → LeadsTo first books book → IsInvariant book
  go first [] i run leads = subst IsInvariant leads i
  go first (next ∷ books) i run leads = go next books (kept first next i run.0) run.1 leads

-- and one step more
pub reach_more : (book new : Book) → IsReached book → Steps book new → IsReached new
reach_more book new r step =
    let more = longer (opening_book r.profile r.start r.faults) r.books r.run r.leads in
    record { profile = r.profile; start = r.start; is_start = r.is_start; faults = r.faults; books = r.books ++ new ∷ []; run = more.0; leads = more.1 } where
      longer : (first : Book) (books : List Book) → IsRun first books → LeadsTo first books book → IsRun first (books ++ new ∷ []) × LeadsTo first (books ++ new ∷ []) new
      longer first [] run leads = ((subst (λ (b : Book). Steps b new) (sym leads) step, tt), refl)
      longer first (next ∷ books) run leads = let rest = longer next books run.1 leads in ((run.0, rest.0), rest.1)

-- ---- each call of a book is a judged one

abbrev IsJudgedOne : RecordedCall → Type 0
IsJudgedOne call = (asked : NfsCall) × (call.meaning ≡ meanings.Judged asked)

abbrev AreJudged : Book → Type 0
AreJudged book = AllByRecursion IsJudgedOne book.history.known.calls

still_judged : (book new : Book) → AreJudged book → Steps book new → AreJudged new
still_judged book new j (begins lane message b) =
    subst AreJudged (sym b.done) (all_append IsJudgedOne book.history.known.calls (begun book.history lane message b.call ∷ []) j ((b.call, refl), tt))
still_judged book new j (places number reply p) = subst AreJudged (sym p.done) j
still_judged book new j (flushes f) = subst AreJudged (sym f.done) j
still_judged book new j (answers number a) =
    subst AreJudged (sym a.done) (all_changed IsJudgedOne (answered_now book.history a.step.outcome) (number - 1) book.history.known.calls (λ c is. is) j)
still_judged book new j (closes lane c) = subst AreJudged (sym c.done) j
still_judged book new j (crashes keep c) = subst AreJudged (sym c.done) j
still_judged book new j (refuses r) = subst AreJudged (sym r.done) j

pub reached_asked : (book : Book) (number : ℕ) (call : RecordedCall) → IsReached book → call_at book.history.known.calls number ≡ Some call → IsAsked book.history.known.calls number
reached_asked book number call r at =
    let judged = call_has IsJudgedOne book.history.known.calls number call (go (opening_book r.profile r.start r.faults) r.books tt r.run r.leads) at in
    (call, judged.0, at, judged.1) where
      go : (first : Book) (books : List Book) → AreJudged first → IsRun first books → LeadsTo first books book → AreJudged book
      go first [] j run leads = subst AreJudged leads j
      go first (next ∷ books) j run leads = go next books (still_judged first next j run.0) run.1 leads
