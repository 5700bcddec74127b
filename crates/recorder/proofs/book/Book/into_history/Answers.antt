use Rattle.std.proofs.Common.{ap, ◌∙◌}
use Rattle.nfs_history.specs.HistoryValue.{HistoryValue}
use Rattle.book_ledger.specs.book_laws_specs.Book.{Book}
use Rattle.recorder.proofs.book.Book.into_history.Goals as goal

pub returns : goal.returns
returns g c = (
  ap (λ (h : HistoryValue). h.known) c.into_history.ensures ∙ ap (λ (b : Book). b.history.known) c.self.view_is,
  ap (λ (h : HistoryValue). h.events) c.into_history.ensures ∙ ap (λ (b : Book). b.history.events) c.self.view_is,
)
