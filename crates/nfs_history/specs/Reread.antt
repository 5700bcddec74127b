-- For the prover, and for callers.
-- What is known of a call, read once more from its messages: what the code's private functions say to the prover. Where a message
-- can't be read, what stands here counts for nothing.
use Rattle.std.specs.Prelude.{◌≡◌, ℕ, zero, suc, if◌then◌else◌, List, [], map, Option, Some, None, option_map, Result, Ok, Err}
use Rattle.std.specs.List.{slice_get}
use Rattle.xdr_records.specs.Unread.{Unread, At, whole}
use Rattle.xdr_records.specs.Kinds.{kind_reading}
use Rattle.rpc_reader.specs.declared.fault.RpcFault.{RpcFault}
use Rattle.rpc_reader.specs.Values.{CallValue, Body}
use Rattle.rpc_reader.specs.Values.Body.{success}
use Rattle.rpc_reader.specs.Heads.{kind_of, CallStart, call_head}
use Rattle.rpc_reader.specs.ReplyHeads.{Status, ReplyStart, reply_head}
use Rattle.rpc_reader.specs.ReplyHeads.Status.{results_follow, final}
use Rattle.nfs3_types.specs.Procedures.{asked_for, failure_in}
use Rattle.nfs3_types.specs.declared.status.Failure.{Failure}
use Rattle.nfs3_types.specs.declared.calls.NfsCall.{NfsCall}
use Rattle.nfs3_types.specs.declared.replies.NfsReply.{NfsReply}
use Rattle.nfs3_types.specs.declared.replies.Outcome.{Outcome}
use Rattle.nfs3_types.specs.declared.replies.Outcome.TheVariants as outcomes
use Rattle.nfs3_msgs.specs.nfs3_values_specs.declared.fault.Kind.{Kind}
use Rattle.nfs3_msgs.specs.Messages.{arguments_of, result_of}
use Rattle.nfs_history.specs.declared.recorded.Meaning.{Meaning}
use Rattle.nfs_history.specs.declared.recorded.Meaning.TheVariants as meanings
use Rattle.nfs_history.specs.declared.recorded.RecordedCall.{RecordedCall}
use Rattle.nfs_history.specs.declared.recorded.CallKind.{CallKind}
use Rattle.nfs_history.specs.declared.recorded.CallKind.TheVariants as kinds
use Rattle.nfs_history.specs.declared.matching.SeenCall.{SeenCall}
use Rattle.nfs_history.specs.Calls.{ReplyEvent, CallEvent, xid_of}
use Rattle.nfs_history.specs.Matching.{seen_call}
use Rattle.nfs_history.specs.Effects.{results_of, has_no_effect}
use Rattle.nfs_history.specs.History.{IsRecorded, AreRecorded}

-- what a call's message says
abbrev pub head_from : Result (CallStart × Unread) RpcFault → CallValue
head_from (Ok x) = record { xid = x.0.xid; program = x.0.program; version = x.0.version; procedure = x.0.procedure; flavor = x.0.flavor; args = x.1.rest }
head_from (Err fault) = record { xid = 0; program = 0; version = 0; procedure = 0; flavor = 0; args = [] }

abbrev pub head_in : List ℕ → CallValue
head_in message = head_from (kind_reading kind_of call_head (whole message))

-- what a reply's message says
abbrev pub body_behind : Status → List ℕ → Body
body_behind results_follow rest = success rest
body_behind (final body) rest = body

abbrev pub body_from : Result (ReplyStart × Unread) RpcFault → Option Body
body_from (Ok x) = Some (body_behind x.0.status x.1.rest)
body_from (Err fault) = None

abbrev pub body_in : Option ReplyEvent → Option Body
body_in None = None
body_in (Some reply) = body_from (kind_reading kind_of reply_head (whole reply.message))

-- what a judged call asked, and how it came out
abbrev pub asked_from : Result NfsCall (At Kind) → Meaning
asked_from (Ok call) = meanings.Judged call
asked_from (Err fault) = meanings.Unjudged

abbrev pub came_from : Result NfsReply (At Kind) → Option Outcome
came_from (Ok answer) = Some (outcomes.Received answer)
came_from (Err fault) = None

abbrev pub came_out : ℕ → Option (List ℕ) → Option Outcome
came_out procedure None = None
came_out procedure (Some results) = came_from (result_of procedure results)

-- what a call with this head and this reply was
abbrev pub meaning_in : CallValue → Option Body → Meaning
meaning_in head body = if has_no_effect head body then meanings.Unjudged else asked_from (arguments_of head.procedure head.args)

abbrev pub outcome_in : CallValue → Option Body → Option Outcome
outcome_in head body = if has_no_effect head body then None else came_out head.procedure (results_of body)

-- what is known of a call
unfoldable pub known_call : CallEvent → RecordedCall
known_call event = record {
  lane = event.lane;
  xid = xid_of event.message;
  meaning = meaning_in (head_in event.message) (body_in event.answer);
  begin = event.begin;
  «end» = option_map (λ reply. reply.number) event.answer;
  era = event.era;
  outcome = outcome_in (head_in event.message) (body_in event.answer);
}

-- what is known of a call where it was seen
abbrev pub known_as : SeenCall → RecordedCall
known_as c = known_call (seen_call c)

-- item n of a list, from 1 on
abbrev pub item_at : {A : Type 0} → List A → ℕ → Option A
item_at items zero = None
item_at items (suc n) = slice_get items n

-- the status of an outcome that is a failure
abbrev pub failure_of : Outcome → Option Failure
failure_of (outcomes.Received reply) = failure_in reply
failure_of (outcomes.Taken count) = None

-- what a call is for a plan
abbrev pub kind_as : Meaning → Option Outcome → CallKind
kind_as meanings.Unjudged outcome = kinds.Unjudged
kind_as (meanings.Judged call) None = kinds.Unanswered (asked_for call)
kind_as (meanings.Judged call) (Some outcome) = kinds.Answered (asked_for call) (failure_of outcome)

abbrev pub call_kind : RecordedCall → CallKind
call_kind call = kind_as call.meaning call.outcome

-- a judged call, and how it came out
abbrev pub judged_as : Meaning → Option Outcome → Option (NfsCall × Option Outcome)
judged_as meanings.Unjudged outcome = None
judged_as (meanings.Judged call) outcome = Some (call, outcome)

abbrev pub judged_in : RecordedCall → Option (NfsCall × Option Outcome)
judged_in call = judged_as call.meaning call.outcome

-- the call was read without a fault, and is of this kind
abbrev pub IsReadAs : CallEvent → CallKind → Type 0
IsReadAs event kind = IsRecorded event (known_call event) × (kind ≡ call_kind (known_call event))

-- the calls were read without a fault, and are of these kinds
abbrev pub AreReadTo : List CallEvent → List CallKind → Type 0
AreReadTo events kinds = AreRecorded events (map known_call events) × (kinds ≡ map call_kind (map known_call events))
