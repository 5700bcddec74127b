use Rattle.std.proofs.Common.{arith}
use Rattle.rpc_reader.specs.Views.{call_value}
use Rattle.journal.specs.Parts.{IsSuccess}
use Rattle.journal.proofs.Meanings.{Changes, fault_on, none_answered, no_success_answered, changed_so, too_long}
use Rattle.journal.proofs.change.change_of.Goals as goal

pub returns-in_default-results_of : goal.returns-in_default-results_of
returns-in_default-results_of c =
    none_answered c.args.call.now c.args.reply.now (call_value c.in-Some.head) c.in-Some.ensures c.in_default-results_of.ensures

pub returns-in-Err : goal.returns-in-Err
returns-in-Err c =
    let call = c.args.call.now in
    let reply = c.args.reply.now in
    let head = call_value c.in-Some.head in
    let results = c.in-Some-results_of.results.now in
    fault_on (IsSuccess head.procedure results) (Changes call reply)
    (no_success_answered call reply head c.in-Some.ensures results c.in-Some-results_of.ensures) c.in-Err.fault c.reply_of.result c.in-Err.is c.reply_of.ensures

pub returns-in-Ok : goal.returns-in-Ok
returns-in-Ok c =
    changed_so c.args.call.now c.args.reply.now (call_value c.in-Some.head) c.in-Some.ensures c.in-Some-results_of.results.now c.in-Some-results_of.ensures c.in_ok-asked.asked
    c.in-Ok.answer (omega (arith, c.if-call-gt-RECORD_LIMIT.false)) c.in_ok-asked.ensures c.in-Ok.ensures

pub returns-then-call-gt-RECORD_LIMIT : goal.returns-then-call-gt-RECORD_LIMIT
returns-then-call-gt-RECORD_LIMIT c = too_long c.args.call.now c.args.reply.now (omega (arith, c.if-call-gt-RECORD_LIMIT.true))
