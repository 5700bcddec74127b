use Rattle.std.proofs.Common.{refl, sym, subst}
use Rattle.book_ledger.specs.declared.fault.AnswerFault.{AnswerFault}
use Rattle.book_ledger.specs.Refusals.{AnswerStops}
use Rattle.book_ledger.specs.Inside.{book_of}
use Rattle.book_ledger.proofs.Answered.{answer_stops}
use Rattle.book_ledger.proofs.ledger.Ledger.answer.Goals as goal

pub returns-in-Err-clause-refused : goal.returns-in-Err-clause-refused
returns-in-Err-clause-refused c = λ device t at. (
  t,
  (
    subst (λ (f : AnswerFault). AnswerStops (book_of c.args.self.now device) c.args.number f) (sym c.from.ensures) (answer_stops (book_of c.args.self.now device) c.args.number c.in-Err.fault (c.in-Err.ensures.refused device t)),
    refl,
  ),
)
