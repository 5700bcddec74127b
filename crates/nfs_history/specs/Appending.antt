-- For the prover, and for callers.
-- What becomes of a history where an event is put behind the others. When events are a history's, and which fault is the first, is
-- said in History and FirstFault.
use Rattle.std.specs.Prelude.{◌≡◌, ℕ, ◌+◌, ◌<◌, ◌≤◌, List, [], ◌∷◌, ◌++◌, length, slice_get, slice_set, true, Option, Some, None, Result, IsOk, OnOk, OnErr}
use Rattle.nfs3_types.specs.declared.calls.NfsCall.{NfsCall}
use Rattle.nfs3_types.specs.declared.replies.NfsReply.{NfsReply}
use Rattle.nfs3_types.specs.declared.replies.Outcome.{Outcome}
use Rattle.nfs3_types.specs.declared.replies.Outcome.TheVariants as outcomes
use Rattle.nfs3_types.specs.Procedures.{is_answered}
use Rattle.history_file.specs.tree_starts_specs.Head.{Head}
use Rattle.history_file.specs.declared.event.Event as owned
use Rattle.history_file.specs.Event.{Event, Recording}
use Rattle.history_file.specs.Event.Event.{call, reply, close, crash}
use Rattle.history_file.specs.Owning.{happened, all_happened}
use Rattle.nfs_history.specs.declared.fault.HistoryFault.{HistoryFault}
use Rattle.nfs_history.specs.declared.recorded.Meaning.TheVariants as meanings
use Rattle.nfs_history.specs.declared.history.ReadCalls.{ReadCalls}
use Rattle.nfs_history.specs.declared.recorded.RecordedCall.{RecordedCall}
use Rattle.nfs_history.specs.HistoryValue.{HistoryValue}
use Rattle.nfs_history.specs.Answers.{IsErrorOf}
use Rattle.nfs_history.specs.Calls.{CallEvent, calls_of}
use Rattle.nfs_history.specs.Checking.{Knows}
use Rattle.nfs_history.specs.FirstFault.{FirstFaultOf}
use Rattle.nfs_history.specs.History.{IsRecorded, AreRecorded, AreCallsOf, IsHistory}
use Rattle.nfs_history.specs.Outside.{outside}

-- what was recorded, with this event behind the others
abbrev pub with_event : HistoryValue → owned.Event → Recording
with_event history event = record { head = history.known.head; events = all_happened history.events ++ happened event ∷ [] }

-- ---- what the private functions say to the prover

-- the calls of the events, and what these leave open
abbrev pub IsReadOf : Head → List Event → ReadCalls → Type 0
IsReadOf head events read =
    AreCallsOf (record { head = head; events = events }) (record { head = head; eras = read.open_calls.era; calls = read.calls.items })
    × Knows read.open_calls events

-- a close and a crash answer nothing, and are no calls
abbrev pub IsQuiet : Event → Type 0
IsQuiet (call lane message) = ⊥
IsQuiet (reply lane message) = ⊥
IsQuiet (close lane) = Unit {0}
IsQuiet crash = Unit {0}

-- a call without its reply
abbrev pub unanswered : CallEvent → CallEvent
unanswered c = record c { answer = None }

-- these are the calls once the event is put behind the others
abbrev pub AreCallsWith : HistoryValue → Event → List RecordedCall → Type 0
AreCallsWith history e calls = AreRecorded (calls_of (all_happened history.events ++ e ∷ [])) calls

-- the call that the event begins
abbrev pub IsBegun : HistoryValue → ℕ → List ℕ → RecordedCall → Type 0
IsBegun history lane message begun = AreCallsWith history (call lane message) (history.known.calls ++ begun ∷ [])

-- the call that the event answers, at its place
abbrev pub IsAnswered : HistoryValue → ℕ → List ℕ → ℕ → RecordedCall → Type 0
IsAnswered history lane message place answered =
    (place < length history.known.calls) × AreCallsWith history (reply lane message) (slice_set history.known.calls place answered)

-- the call with this reply
abbrev pub replied : ℕ → List ℕ → CallEvent → CallEvent
replied number message event = record event { answer = Some (record { number = number; message = message }) }

-- the reply answers the call at this place
pub record IsPlaceFor (history : HistoryValue) (lane : ℕ) (message : List ℕ) (place : ℕ) : Type 0 where
  pub within : place < length history.known.calls
  pub event : CallEvent
  pub asked : RecordedCall
  pub there : slice_get history.known.calls place ≡ Some asked
  pub recorded : IsRecorded event asked
  pub answered : (now : RecordedCall) → IsRecorded (replied (length history.events + 1) message event) now
      → AreCallsWith history (reply lane message) (slice_set history.known.calls place now)

-- the outcome is one of the call at this place, and lies inside the model
pub record ComesOut (history : HistoryValue) (place : ℕ) (outcome : Option Outcome) : Type 0 where
  pub asked : RecordedCall
  pub call : NfsCall
  pub reply : NfsReply
  pub at : slice_get history.known.calls place ≡ Some asked
  pub judged : asked.meaning ≡ meanings.Judged call
  pub received : outcome ≡ Some (outcomes.Received reply)
  pub answered : is_answered call reply ≡ true
  pub inside : outside call outcome ≡ None

-- these are the calls where the one at this place comes out so
pub record IsAnsweredSo (history : HistoryValue) (e : Event) (place : ℕ) (outcome : Option Outcome) : Type 0 where
  pub asked : RecordedCall
  pub at : slice_get history.known.calls place ≡ Some asked
  pub recorded : AreCallsWith history e (slice_set history.known.calls place (record asked { «end» = Some (length history.events + 1); outcome = outcome }))

-- the history with the event behind the others
pub record Follows (old : HistoryValue) (event : owned.Event) (new : HistoryValue) : Type 0 where
  pub history : IsHistory (with_event old event) new
  pub events : new.events ≡ old.events ++ event ∷ []
  pub spare : new.spare ≡ 0

-- the answer to an event that is put behind the others, and the history then
pub record Appends {X : Type 0} (old : HistoryValue) (event : owned.Event) (answer : Result X HistoryFault) (new : HistoryValue) : Type 0 where
  pub found : OnOk answer (Follows old event new)
  pub kept : OnErr answer (new ≡ old)
  pub fault : IsErrorOf (FirstFaultOf (with_event old event).events) answer
  pub crashed : 1 ≤ old.spare → happened event ≡ crash → IsOk answer
