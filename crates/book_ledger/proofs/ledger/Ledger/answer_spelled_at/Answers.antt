use Rattle.std.proofs.Common.{◌≡◌, refl, sym}
use Rattle.book_ledger.specs.declared.fault.AnswerFault.TheVariants.{NoMemory}
use Rattle.book_ledger.proofs.Standing.{from_one, at_most}
use Rattle.book_ledger.proofs.Tied.{same_tied, same_book}
use Rattle.book_ledger.proofs.Answered.{its_call, on_ok_of, if_err_by, memory_stops, goes_answered, far_from, not_yet}
use Rattle.book_ledger.proofs.ledger.Ledger.answer_spelled_at.Goals as goal

pub put_spelled-requires-clause-from_one : goal.put_spelled-requires-clause-from_one
put_spelled-requires-clause-from_one c =
    let call = its_call c.args.self.now c.requires.tied.0 c.requires.tied.1 c.args.number c.args.place c.requires.stands in
    from_one c.args.self.now.history.known.calls c.args.number call.0 call.1

pub put_spelled-requires-clause-known : goal.put_spelled-requires-clause-known
put_spelled-requires-clause-known c =
    let call = its_call c.args.self.now c.requires.tied.0 c.requires.tied.1 c.args.number c.args.place c.requires.stands in
    at_most c.args.self.now.history.known.calls c.args.number call.0 call.1

pub returns-then-durable-clause-answered : goal.returns-then-durable-clause-answered
returns-then-durable-clause-answered c =
    let old = c.args.self.now in
    let new = c.put_spelled.new.self in
    on_ok_of c.put_spelled.result _ _ _ (λ answer spelled follows device t at.
    (let ready = c.requires.ready device t in
    goes_answered old new c.args.number c.args.place c.args.mark c.requires.stands answer.items (c.requires.given answer.items spelled) device t at ready ((c.is_durable-durable.ensures device t).0 c.if-durable.true)
    c.put_spelled.ensures.only c.put_spelled.ensures.as_far (follows ready.1.0 ready.1.1.recorded))) c.put_spelled.ensures.spelled c.put_spelled.ensures.taken

pub returns-then-durable-clause-refused : goal.returns-then-durable-clause-refused
returns-then-durable-clause-refused c =
    let old = c.args.self.now in
    let new = c.put_spelled.new.self in
    if_err_by c.put_spelled.result (λ fault. fault ≡ NoMemory) _ (new.history ≡ old.history) (λ fault is kept device t at.
    (let ready = c.requires.ready device t in (
      same_tied old new device t c.put_spelled.ensures.only kept c.put_spelled.ensures.as_far,
      (
        memory_stops old device c.args.number c.args.place c.args.mark c.requires.stands at ready.0 ready.1 ready.2 ((c.is_durable-durable.ensures device t).0 c.if-durable.true) fault is,
        same_book old new device t c.put_spelled.ensures.only kept c.put_spelled.ensures.as_far,
      ),
    ))) c.put_spelled.ensures.memory c.put_spelled.ensures.kept

pub returns-else-durable-clause-refused : goal.returns-else-durable-clause-refused
returns-else-durable-clause-refused c = λ device t at.
    let ready = c.requires.ready device t in
    let stands = c.requires.stands in
    let far = far_from c.is_durable-durable.result _ c.if-durable.false (c.is_durable-durable.ensures device t).1 in
    (t, ((ready.0, sym at, not_yet c.args.self.now device t c.args.number c.args.place c.args.mark stands.0 stands.1 stands.2 ready.1 ready.2 far), refl))
