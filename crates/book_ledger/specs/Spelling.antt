-- Believed.
-- A reply with its message, which is made ahead of the book's lock.
use Rattle.std.specs.Prelude.{◌≡◌, ℕ, List, Some}
use Rattle.std.specs.List.{AllByRecursion}
use Rattle.rpc_reader.specs.Values.Body.{success}
use Rattle.rpc_reader.specs.Messages.{IsReply}
use Rattle.nfs3_types.specs.declared.replies.NfsReply.{NfsReply}
use Rattle.nfs3_types.specs.declared.replies.Outcome.{Outcome}
use Rattle.nfs3_types.specs.declared.replies.Outcome.TheVariants as outcomes
use Rattle.nfs3_types.specs.Procedures.{procedure_answered}
use Rattle.nfs3_msgs.specs.Messages.{IsResult, result_text}
use Rattle.nfs_history.specs.declared.recorded.RecordedCall.{RecordedCall}
use Rattle.nfs_history.specs.Precedence.{call_at}
use Rattle.book_laws.specs.Placing.{Placed}
use Rattle.book_laws.specs.Steps.{reply_message}

-- the transaction number of the call that is answered, and the reply
pub record Spelled : Type 0 where
  pub xid : ℕ
  pub reply : NfsReply

-- the message is the reply's to a call of that number, and is read as that reply
pub record IsSpelled (xid : ℕ) (reply : NfsReply) (answer : List ℕ) : Type 0 where
  pub message : answer ≡ reply_message xid reply
  pub is_reply : IsReply answer (record { xid = xid; body = success (result_text reply) })
  pub is_result : IsResult (procedure_answered reply) (result_text reply) reply

-- where the call was placed, it was with this reply
abbrev pub IsPlacedWith : List Placed → ℕ → NfsReply → Type 0
IsPlacedWith placed number reply = AllByRecursion (λ step. step.number ≡ number → step.outcome ≡ outcomes.Received reply) placed

-- ---- what is said to the prover

-- the message is that of the reply to the call of this number
abbrev pub IsSpelledTo : List RecordedCall → ℕ → Outcome → List ℕ → Type 0
IsSpelledTo calls number outcome answer =
    (call : RecordedCall) (reply : NfsReply) → call_at calls number ≡ Some call → outcome ≡ outcomes.Received reply → IsSpelled call.xid reply answer

-- the reply is one to the call of this number
abbrev pub IsOfCall : List RecordedCall → ℕ → ℕ → Type 0
IsOfCall calls number xid = (call : RecordedCall) → call_at calls number ≡ Some call → call.xid ≡ xid
