use Rattle.std.proofs.Common.{refl, sym, subst}
use Rattle.book_ledger.specs.declared.fault.AnswerFault.{AnswerFault}
use Rattle.book_ledger.specs.Refusals.{AnswerStops}
use Rattle.book_ledger.specs.Inside.{book_of}
use Rattle.book_ledger.proofs.Answered.{answer_stops, its_asked, answers_at}
use Rattle.book_ledger.proofs.ledger.Ledger.answer_spelled.Goals as goal

pub is_of_call-requires : goal.is_of_call-requires
is_of_call-requires c = its_asked c.args.self.now c.requires.tied.0 c.requires.tied.1 c.args.number c.in-Ok.place c.in-Ok.ensures.stands

pub answer_spelled_at-requires-clause-given : goal.answer_spelled_at-requires-clause-given
answer_spelled_at-requires-clause-given c =
    answers_at c.args.self.now c.requires.tied.0 c.requires.tied.1 c.args.number c.in-Ok.place c.in-Ok.ensures.stands c.args.spelled (c.requires.placed c.requires.tied.0 c.requires.tied.1) (c.is_of_call.ensures c.if-is_of_call.true)

pub returns-in-Err-clause-refused : goal.returns-in-Err-clause-refused
returns-in-Err-clause-refused c = λ device t at. (
  t,
  (
    subst (λ (f : AnswerFault). AnswerStops (book_of c.args.self.now device) c.args.number f) (sym c.from.ensures) (answer_stops (book_of c.args.self.now device) c.args.number c.in-Err.fault (c.in-Err.ensures.refused device t)),
    refl,
  ),
)
