use Rattle.std.proofs.Common.{List, ℕ, ◌-◌, ◌≤◌, length, sym, subst, arith}
use Rattle.rpc_reader.specs.Values.Body.{success}
use Rattle.rpc_reader.specs.Messages.{IsReply}
use Rattle.nfs3_types.specs.declared.replies.Outcome.{Outcome}
use Rattle.nfs3_msgs.specs.Messages.{result_text}
use Rattle.book_ledger.specs.declared.ledger.Ledger.{Ledger}
use Rattle.book_ledger.specs.Inside.{IsShort}
use Rattle.book_ledger.specs.PlaceSteps.{IsSayable}
use Rattle.book_ledger.specs.Spelling.{IsSpelledTo}
use Rattle.book_ledger.proofs.Noting.{has_at}
use Rattle.book_ledger.proofs.ledger.Ledger.entry_of.Goals as goal

sayable : (ledger : Ledger) (number : ℕ) (outcome : Outcome) (answer : List ℕ) → IsSpelledTo ledger.history.known.calls number outcome answer → IsSayable ledger number outcome
sayable ledger number outcome answer spelled = λ call reply at is.
    let s = spelled call reply at is in
    (subst (λ (m : List ℕ). IsReply m (record { xid = call.xid; body = success (result_text reply) })) s.message s.is_reply, s.is_result)

pub returns-then-answer-gt-RECORD_LIMIT-clause-refused : goal.returns-then-answer-gt-RECORD_LIMIT-clause-refused
returns-then-answer-gt-RECORD_LIMIT-clause-refused c = λ short.
    let asked = c.requires.asked in
    let received = c.requires.received in
    let message = (c.requires.spelled asked.0 received.0 asked.2 received.1).message in
    let least : length c.args.answer.now ≤ 2097152 = subst (λ (m : List ℕ). length m ≤ 2097152) (sym message) (short asked.0 received.0 asked.2 received.1) in
    omega (arith, least, c.if-answer-gt-RECORD_LIMIT.true)

pub returns-then-not-is_recorded-clause-said : goal.returns-then-not-is_recorded-clause-said
returns-then-not-is_recorded-clause-said c = sayable c.args.self.now c.args.number c.args.outcome.now c.args.answer.now c.requires.spelled

pub record_of-requires-clause-message : goal.record_of-requires-clause-message
record_of-requires-clause-message c = has_at IsShort c.args.self.now.history.events (c.call-asked.result.now.begin - 1) _ c.requires.tied.1.short c.message_of-message.ensures

pub returns-clause-said : goal.returns-clause-said
returns-clause-said c = sayable c.args.self.now c.args.number c.args.outcome.now c.args.answer.now c.requires.spelled
