use Rattle.std.proofs.Common.{refl, sym}
use Rattle.book_ledger.specs.declared.fault.AnswerFault.TheVariants.{NoMemory}
use Rattle.book_ledger.proofs.Answered.{far_from, not_yet, memory_stops}
use Rattle.book_ledger.proofs.ledger.Ledger.answer_placed.Goals as goal

pub returns-then-not-durable-clause-refused : goal.returns-then-not-durable-clause-refused
returns-then-not-durable-clause-refused c = λ device t at.
    let ready = c.requires.ready device t in
    let stands = c.requires.stands in
    let far = far_from c.is_durable-durable.result _ c.if-not-durable.true (c.is_durable-durable.ensures device t).1 in
    (t, ((ready.0, sym at, not_yet c.args.self.now device t c.args.number c.args.place c.args.mark stands.0 stands.1 stands.2 ready.1 ready.2 far), refl))

pub returns-in-Err-clause-refused : goal.returns-in-Err-clause-refused
returns-in-Err-clause-refused c = λ device t at.
    (let ready = c.requires.ready device t in
    (t, (memory_stops c.args.self.now device c.args.number c.args.place c.args.mark c.requires.stands at ready.0 ready.1 ready.2 ((c.is_durable-durable.ensures device t).0 c.if-not-durable.false) NoMemory refl, refl)))
