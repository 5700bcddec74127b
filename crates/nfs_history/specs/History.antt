-- Believed.
-- A history: what each of its calls was, when it began and ended, and how it came out (Herlihy and Wing 1990,
-- section 2; the calls are those of RFC 1813, section 3.3); and which bytes are a history's file.
use Rattle.std.specs.Prelude.{◌≡◌, ◌≢◌, ℕ, true, false, List, [], ◌∷◌, Option, Some, None, option_map}
use Rattle.nfs3_types.specs.declared.calls.NfsCall.{NfsCall}
use Rattle.nfs3_types.specs.declared.replies.NfsReply.{NfsReply}
use Rattle.nfs3_types.specs.declared.replies.Outcome.{Outcome}
use Rattle.nfs3_types.specs.declared.replies.Outcome.TheVariants as outcomes
use Rattle.rpc_reader.specs.Values.{CallValue, ReplyValue, Body, sealed_flavor}
use Rattle.rpc_reader.specs.Values.Body.{success}
use Rattle.rpc_reader.specs.Messages.{IsCall, IsReply}
use Rattle.nfs3_msgs.specs.Messages.{IsArguments, IsResult}
use Rattle.nfs_history.specs.declared.recorded.Meaning.{Meaning}
use Rattle.nfs_history.specs.declared.recorded.Meaning.TheVariants as meanings
use Rattle.nfs_history.specs.declared.recorded.RecordedCall.{RecordedCall}
use Rattle.nfs_history.specs.HistoryValue.{CallsValue, HistoryValue}
use Rattle.history_file.specs.Event.{Recording}
use Rattle.history_file.specs.HistoryFile.{HistoryFile}
use Rattle.nfs_history.specs.Calls.{CallEvent, calls_of, eras_from, xid_of}
use Rattle.nfs_history.specs.Standing.{EachMayFollow}
use Rattle.history_file.specs.Owning.{all_happened}
use Rattle.nfs_history.specs.Outside.{outside}
use Rattle.nfs3_types.specs.Procedures.{nfs_program, nfs_version, is_judged, procedure_answered}
use Rattle.nfs_history.specs.Effects.{Says, was_refused, results_of, has_no_effect}

-- how a call of a procedure came out: with the result that the reply to it holds
abbrev pub CameOut : ℕ → Option (List ℕ) → Option Outcome → Type 0
CameOut procedure None outcome = outcome ≡ None
CameOut procedure (Some results) outcome = (answer : NfsReply) × IsResult procedure results answer × (outcome ≡ Some (outcomes.Received answer))

-- the call is one of NFS version 3 (RFC 1813, section 3), of a judged procedure, with a credential that doesn't hide its
-- arguments (not RPCSEC_GSS, RFC 2203)
pub record IsCallOfNfs (head : CallValue) (call : NfsCall) : Type 0 where
  pub program : head.program ≡ nfs_program
  pub version : head.version ≡ nfs_version
  pub procedure : is_judged head.procedure ≡ true
  pub credential : head.flavor ≢ sealed_flavor
  pub arguments : IsArguments head.procedure head.args call

-- the message is that of this call, which lies inside the model where no reply comes
pub record Asks (message : List ℕ) (call : NfsCall) : Type 0 where
  pub head : CallValue
  pub is_call : IsCall message head
  pub of_nfs : IsCallOfNfs head call
  pub inside : outside call None ≡ None

-- the message is that of a reply which accepts its call, with this result
pub record Returns (message : List ℕ) (reply : NfsReply) : Type 0 where
  pub value : ReplyValue
  pub results : List ℕ
  pub is_reply : IsReply message value
  pub accepted : value.body ≡ success results
  pub result : IsResult (procedure_answered reply) results reply

-- a judged call, and how it came out
pub record IsJudged (head : CallValue) (body : Option Body) (call : NfsCall) (outcome : Option Outcome) : Type 0 where
  pub of_nfs : IsCallOfNfs head call
  pub accepted : was_refused body ≡ false
  pub came_out : CameOut head.procedure (results_of body) outcome
  pub inside : outside call outcome ≡ None

-- what a call with this head and this reply was, and how it came out
abbrev pub IsKnownAs : CallValue → Option Body → Meaning → Option Outcome → Type 0
IsKnownAs head body (meanings.Judged call) outcome = IsJudged head body call outcome
IsKnownAs head body meanings.Unjudged outcome = (has_no_effect head body ≡ true) × (outcome ≡ None)

-- what a call was, and how it came out
abbrev pub Means : CallEvent → Meaning → Option Outcome → Type 0
Means event meaning outcome =
    (head : CallValue) × (body : Option Body) × IsCall event.message head × Says event.answer body × IsKnownAs head body meaning outcome

-- what is known of a call
pub record IsRecorded (event : CallEvent) (call : RecordedCall) : Type 0 where
  pub lane : call.lane ≡ event.lane
  pub xid : call.xid ≡ xid_of event.message
  pub begin : call.begin ≡ event.begin
  pub «end» : call.«end» ≡ option_map (λ reply. reply.number) event.answer
  pub era : call.era ≡ event.era
  pub means : Means event call.meaning call.outcome

-- each call of the list is what is known of that event's
abbrev pub AreRecorded : List CallEvent → List RecordedCall → Type 0
AreRecorded [] [] = Unit {0}
AreRecorded [] (call ∷ calls) = ⊥
AreRecorded (event ∷ events) [] = ⊥
AreRecorded (event ∷ events) (call ∷ calls) = IsRecorded event call × AreRecorded events calls

-- what the history of a recording is judged by
pub record AreCallsOf (seen : Recording) (known : CallsValue) : Type 0 where
  pub follow : EachMayFollow [] seen.events
  pub head : known.head ≡ seen.head
  pub eras : known.eras ≡ eras_from 1 seen.events
  pub calls : AreRecorded (calls_of seen.events) known.calls

-- the history of a recording
pub record IsHistory (seen : Recording) (history : HistoryValue) : Type 0 where
  pub known : AreCallsOf seen history.known
  pub events : all_happened history.events ≡ seen.events

-- what was recorded, of which a history is made
abbrev pub recording_of : HistoryValue → Recording
recording_of history = record { head = history.known.head; events = all_happened history.events }

-- the bytes are the file of a history that is judged by these
abbrev pub IsCallsFile : List ℕ → CallsValue → Type 0
IsCallsFile bytes known = (seen : Recording) × HistoryFile bytes seen × AreCallsOf seen known

-- the bytes are the file of the history, in which no room is set aside
abbrev pub IsHistoryFile : List ℕ → HistoryValue → Type 0
IsHistoryFile bytes history = (seen : Recording) × HistoryFile bytes seen × IsHistory seen history × (history.spare ≡ 0)
