-- the message of a reply answers the message of its call
use Rattle.std.proofs.Common.{◌≡◌, ℕ, true, List, sym, ◌∙◌, subst}
use Rattle.std.proofs.lemmas.Bool.{eqb-true}
use Rattle.rpc_reader.specs.Values.{CallValue}
use Rattle.rpc_reader.specs.Values.Body.{success}
use Rattle.rpc_reader.specs.Messages.{IsReply}
use Rattle.nfs3_types.specs.declared.calls.NfsCall.{NfsCall}
use Rattle.nfs3_types.specs.declared.replies.NfsReply.{NfsReply}
use Rattle.nfs3_types.specs.Procedures.{is_answered, procedure_called, procedure_answered}
use Rattle.nfs3_msgs.specs.Messages.{IsResult, result_text}
use Rattle.nfs_history.specs.declared.recorded.Meaning.{Meaning}
use Rattle.nfs_history.specs.declared.recorded.Meaning.TheVariants as meanings
use Rattle.nfs_history.specs.declared.recorded.RecordedCall.{RecordedCall}
use Rattle.nfs_history.specs.HistoryValue.{HistoryValue}
use Rattle.nfs_history.specs.History.{IsJudged, IsKnownAs}
use Rattle.book_laws.specs.Steps.{IsAnswerTo}
use Rattle.book_ledger.proofs.Standing.{HasSent}
use Rattle.nfs_history.proofs.AskedProcedure.{procedure_is}
use Rattle.book_ledger.proofs.Replies.{xid_asked, xid_replied}

pub answers_it : (h : HistoryValue) (c : RecordedCall) (call : NfsCall) (reply : NfsReply) (answer : List ℕ) (sent : HasSent h c) → c.meaning ≡ meanings.Judged call → is_answered call reply ≡ true
    → IsReply answer (record { xid = c.xid; body = success (result_text reply) }) → IsResult (procedure_answered reply) (result_text reply) reply → IsAnswerTo sent.asked.event.message answer reply
answers_it h c call reply answer sent judged right is_reply is_result =
    let means = sent.asked.recorded.means in
    let head : CallValue = means.0 in
    let known_as : IsJudged head means.1 call c.outcome = subst (λ (m : Meaning). IsKnownAs head means.1 m c.outcome) judged means.4 in
    let procedure : procedure_answered reply ≡ head.procedure = sym (eqb-true (procedure_called call) (procedure_answered reply) right) ∙ sym (procedure_is head.procedure head.args call known_as.of_nfs.arguments) in
    let xid : c.xid ≡ head.xid = sent.asked.recorded.xid ∙ xid_asked sent.asked.event.message head means.2 in
    record {
      head = head;
      is_call = means.2;
      results = result_text reply;
      is_reply = subst (λ (n : ℕ). IsReply answer (record { xid = n; body = success (result_text reply) })) xid is_reply;
      is_result = subst (λ (n : ℕ). IsResult n (result_text reply) reply) procedure is_result;
      xid = xid_replied answer (record { xid = c.xid; body = success (result_text reply) }) is_reply ∙ sent.asked.recorded.xid;
    }
