use Rattle.std.proofs.Common.{◌≡◌, refl, sym}
use Rattle.book_ledger.specs.book_laws_specs.Steps.{Answers}
use Rattle.book_ledger.specs.Refusals.{AnswerStops}
use Rattle.book_ledger.proofs.Whole.{tied_at, on_ok_at, if_err_at, sent_whole}
use Rattle.recorder.proofs.book.Book.answer.Goals as goal

pub answer-requires : goal.answer-requires
answer-requires g c = (g.D.JournalDevice.device c.self.inside.device, c.self.invariant)

pub invariant_of-self : goal.invariant_of-self
invariant_of-self g c =
    tied_at c.self.inside.ledger c.answer.new.self (g.D.JournalDevice.device c.self.inside.device) c.self.invariant c.mark.result (sym c.mark.ensures.mark) (λ o n. Answers o c.number.result n) (λ fault o n. AnswerStops o c.number.result fault × (n ≡ o)) c.answer.result
    c.answer.ensures.answered c.answer.ensures.refused

pub returns-clause-answered : goal.returns-clause-answered
returns-clause-answered g c =
    rw (← c.number.ensures)
    (on_ok_at c.self.inside.ledger c.answer.new.self (g.D.JournalDevice.device c.self.inside.device) c.self.invariant c.args.self.now _ c.self.view_is refl c.mark.result (sym c.mark.ensures.mark) (λ o n. Answers o c.number.result n) c.answer.result c.answer.ensures.answered)

pub returns-clause-refused : goal.returns-clause-refused
returns-clause-refused g c =
    rw (← c.number.ensures)
    (if_err_at c.self.inside.ledger c.answer.new.self (g.D.JournalDevice.device c.self.inside.device) c.self.invariant c.args.self.now _ c.self.view_is refl c.mark.result (sym c.mark.ensures.mark) (λ fault o n. AnswerStops o c.number.result fault × (n ≡ o)) c.answer.result
    c.answer.ensures.refused)

pub returns-clause-sent : goal.returns-clause-sent
returns-clause-sent g c =
    sent_whole c.self.inside.ledger c.answer.new.self (g.D.JournalDevice.device c.self.inside.device) c.self.invariant c.args.self.now _ c.self.view_is refl (λ message. message.items) c.answer.result c.answer.ensures.sent
