-- For the prover, and for callers.
-- When a call can't be placed or answered, for private functions: the refusals in their order.
use Rattle.std.specs.Prelude.{◌≡◌, ◌≢◌, ◌⊎◌, ℕ, List, ◌∷◌, ◌++◌, length, Some, None, slice_get}
use Rattle.rpc_reader.specs.Values.Body.{success}
use Rattle.rpc_reader.specs.Messages.{IsReply}
use Rattle.nfs3_types.specs.declared.replies.NfsReply.{NfsReply}
use Rattle.nfs3_types.specs.declared.replies.Outcome.TheVariants as outcomes
use Rattle.nfs3_types.specs.Procedures.{procedure_answered}
use Rattle.nfs3_msgs.specs.Messages.{IsResult, result_text}
use Rattle.nfs_history.specs.declared.recorded.RecordedCall.{RecordedCall}
use Rattle.nfs_history.specs.Precedence.{call_at}
use Rattle.book_laws.specs.Placing.{Placed}
use Rattle.book_laws.specs.Book.{Book}
use Rattle.book_laws.specs.Book.Condition.{running}
use Rattle.book_laws.specs.Steps.{IsUnplaced, IsDurable, reply_message}
use Rattle.book_ledger.specs.Refusals.{IsOver, IsCutShort, IsNow, IsAnswerable}
use Rattle.book_ledger.specs.Spelling.{Spelled, IsSpelled}
use Rattle.book_ledger.specs.declared.placed.PlacedCall.{PlacedCall}
use Rattle.book_ledger.specs.declared.ledger.Ledger.{Ledger}
use Rattle.book_ledger.specs.declared.fault.TokenFault.{TokenFault}
use Rattle.book_ledger.specs.declared.fault.TokenFault.TheVariants as token

-- it isn't its turn where this holds
abbrev pub TurnStops : Type 0 → Book → ℕ → TokenFault → Type 0
TurnStops OutOfTurn book number token.Down = book.condition ≢ running
TurnStops OutOfTurn book number (token.EraOver now) = (book.condition ≡ running) × IsOver book number × (now ≡ book.history.known.eras)
TurnStops OutOfTurn book number token.LaneClosed = (book.condition ≡ running) × IsCutShort book number
TurnStops OutOfTurn book number token.OutOfTurn = (book.condition ≡ running) × OutOfTurn

abbrev pub IsNoCall : Book → ℕ → Type 0
IsNoCall book number = call_at book.history.known.calls number ≡ None

abbrev pub TokenStops : Book → ℕ → TokenFault → Type 0
TokenStops book number fault = TurnStops (IsNoCall book number) book number fault

-- or it is placed already
abbrev pub UnplacedStops : Book → ℕ → TokenFault → Type 0
UnplacedStops book number fault = TurnStops (IsNoCall book number ⊎ IsNow book number × (¬ IsUnplaced book.placed number)) book number fault

-- or it isn't placed, or is answered already
abbrev pub PlacedStops : Book → ℕ → TokenFault → Type 0
PlacedStops book number fault =
    TurnStops (IsNoCall book number ⊎ IsNow book number × (¬ ((ahead : List Placed) × (step : Placed) × IsAnswerable book number ahead step))) book number fault

-- ---- answers

-- the reply that stands at this place may go out
abbrev pub IsDurableAt : ℕ → ℕ → List Placed → ℕ → Type 0
IsDurableAt kept mark placed place = (ahead behind : List Placed) (step : Placed) → placed ≡ ahead ++ step ∷ behind → length ahead ≡ place → IsDurable kept mark ahead step

-- the message is the reply with which the call at this place was placed
pub record IsAnswerAt (ledger : Ledger) (number place : ℕ) (answer : List ℕ) : Type 0 where
  pub placed : PlacedCall
  pub stands : slice_get ledger.placed.items place ≡ Some placed
  pub call : RecordedCall
  pub recorded : call_at ledger.history.known.calls number ≡ Some call
  pub reply : NfsReply
  pub received : placed.outcome ≡ outcomes.Received reply
  pub spelled : answer ≡ reply_message call.xid reply
  pub is_reply : IsReply answer (record { xid = call.xid; body = success (result_text reply) })
  pub is_result : IsResult (procedure_answered reply) (result_text reply) reply

-- each message of this reply is the one with which the call at this place was placed
abbrev pub AnswersAt : Ledger → ℕ → ℕ → Spelled → Type 0
AnswersAt ledger number place spelled = (answer : List ℕ) → IsSpelled spelled.xid spelled.reply answer → IsAnswerAt ledger number place answer
