use Rattle.std.proofs.Common.{ℕ, ap, subst, ◌∙◌}
use Rattle.book_ledger.specs.book_laws_specs.Book.{Book}
use Rattle.book_ledger.specs.book_laws_specs.Book.Condition.{down}
use Rattle.book_ledger.specs.book_laws_specs.Steps.{Places}
use Rattle.book_ledger.specs.Refusals.{PlaceStops}
use Rattle.recorder.proofs.book.Book.place.Goals as goal

pub returns-in-Err-clause-refused : goal.returns-in-Err-clause-refused
returns-in-Err-clause-refused g c =
    let left = c.in-Err.ensures.refused in
    let goes = c.go_down.ensures (g.D.JournalDevice.device c.self-2.inside.device) c.self-2.invariant in
    (subst (λ (n : ℕ). PlaceStops c.args.self.now n c.args.reply c.in-Err.fault) c.number-2.ensures left.0, goes.1 ∙ ap (λ (b : Book). record b { condition = down }) c.self-2.view_is ∙ left.1.downed)

pub returns-in-Ok-clause-placed : goal.returns-in-Ok-clause-placed
returns-in-Ok-clause-placed g c = subst (λ (n : ℕ). Places c.args.self.now n c.args.reply c.put_reply.new.self) c.number-2.ensures c.in-Ok.ensures.placed
