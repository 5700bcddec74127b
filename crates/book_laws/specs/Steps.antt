-- Believed.
-- What a book may do: its steps, one after the other. A journal server takes each under one lock.
use Rattle.std.specs.Prelude.{◌≡◌, ◌≢◌, ◌⊎◌, ℕ, zero, suc, ◌+◌, ◌-◌, ◌<◌, ◌≤◌, ◌^◌, ◌&&◌, nat_lt, Bool, true, false, if◌then◌else◌, List, [], ◌∷◌, ◌++◌, length, take, slice_get, Some, None, IfSome, is_some}
use Rattle.std.specs.List.{range_with_len}
use Rattle.std.specs.List.{AllByRecursion}
use Rattle.nfs3_types.specs.declared.calls.NfsCall.{NfsCall}
use Rattle.nfs3_types.specs.declared.calls.NfsCall.TheVariants as calls
use Rattle.nfs3_types.specs.declared.replies.NfsReply.{NfsReply}
use Rattle.nfs3_types.specs.declared.replies.Outcome.{Outcome}
use Rattle.nfs3_types.specs.declared.replies.Outcome.TheVariants as outcomes
use Rattle.rpc_reader.specs.Values.{CallValue}
use Rattle.rpc_reader.specs.Values.Body.{success}
use Rattle.rpc_reader.specs.Messages.{IsCall, IsReply}
use Rattle.rpc_reader.specs.Texts.{reply_text}
use Rattle.journal.specs.Journal.{record_text}
use Rattle.xdr_records.specs.Record.{record_limit}
use Rattle.nfs3_msgs.specs.Messages.{IsResult, result_text}
use Rattle.history_file.specs.declared.event.Event.TheVariants as events
use Rattle.history_file.specs.Owning.{all_happened}
use Rattle.tree_starts.specs.declared.object.StartObject.{StartObject}
use Rattle.tree_starts.specs.declared.profile.Profile.{Profile}
use Rattle.nfs_history.specs.declared.recorded.Meaning.TheVariants as meanings
use Rattle.nfs_history.specs.declared.recorded.RecordedCall.{RecordedCall}
use Rattle.nfs_history.specs.HistoryValue.{HistoryValue}
use Rattle.nfs_history.specs.Calls.{xid_of}
use Rattle.nfs_history.specs.Standing.{IsClosed, has_unanswered}
use Rattle.nfs_history.specs.History.{IsCallOfNfs}
use Rattle.nfs_history.specs.Outside.{outside}
use Rattle.nfs_history.specs.Precedence.{call_at}
use Rattle.tree_nodes.specs.Tree.{Tree, entry_of}
use Rattle.nfs_history.specs.Success.{commit_success}
use Rattle.cut_check.specs.Effect.{effect_of}
use Rattle.cut_check.specs.declared.effect.Effect.TheVariants.{Lasting}
use Rattle.cut_check.specs.Verifier.{verifier_of}
use Rattle.journal.specs.Device.{Device}
use Rattle.book_laws.specs.Served.{IsServed}
use Rattle.book_laws.specs.Placing.{Placed, is_recorded, records_in, front_with}
use Rattle.book_laws.specs.Book.{Book, Condition, handle_of, bindings, setting_made, object_in, next_by, tree_of, records_kept}
use Rattle.book_laws.specs.Book.Condition.{running, down, dead}

-- ---- the history

-- a call that began now, with no reply as yet
abbrev pub begun : HistoryValue → ℕ → List ℕ → NfsCall → RecordedCall
begun history lane message call =
    record {
      lane = lane;
      xid = xid_of message;
      meaning = meanings.Judged call;
      begin = length history.events + 1;
      «end» = None;
      era = history.known.eras;
      outcome = None;
    }

abbrev pub with_call : HistoryValue → ℕ → List ℕ → NfsCall → HistoryValue
with_call history lane message call =
    record {
      known = record history.known { calls = history.known.calls ++ begun history lane message call ∷ [] };
      events = history.events ++ events.Call lane message ∷ [];
      spare = 0;
    }

-- a call that got this reply now
abbrev pub answered_now : HistoryValue → Outcome → RecordedCall → RecordedCall
answered_now history outcome call = record call { «end» = Some (length history.events + 1); outcome = Some outcome }

-- the item at this index is changed
abbrev pub change_at : {X : Type 0} → (X → X) → ℕ → List X → List X
change_at f index [] = []
change_at f zero (x ∷ xs) = f x ∷ xs
change_at f (suc index) (x ∷ xs) = x ∷ change_at f index xs

abbrev pub with_reply : HistoryValue → ℕ → ℕ → List ℕ → Outcome → HistoryValue
with_reply history number lane message outcome =
    record {
      known = record history.known { calls = change_at (answered_now history outcome) (number - 1) history.known.calls };
      events = history.events ++ events.Reply lane message ∷ [];
      spare = 0;
    }

abbrev pub with_close : HistoryValue → ℕ → HistoryValue
with_close history lane = record history { events = history.events ++ events.Close lane ∷ []; spare = 0 }

abbrev pub with_crash : HistoryValue → HistoryValue
with_crash history = record { known = record history.known { eras = history.known.eras + 1 }; events = history.events ++ events.Crash ∷ []; spare = 0 }

-- ---- the steps

-- a message of a judged call that a history takes whatever is answered, and that a history file can hold
pub record IsRecordable (message : List ℕ) (call : NfsCall) : Type 0 where
  pub within : length message ≤ record_limit
  pub head : CallValue
  pub is_call : IsCall message head
  pub of_nfs : IsCallOfNfs head call
  pub inside : outside call None ≡ None

-- a lane on which calls may begin, and be placed and answered
abbrev pub IsOpen : Book → ℕ → Type 0
IsOpen book lane = ¬ IsClosed lane (all_happened book.history.events)

-- a call of the era now
pub record IsOfNow (book : Book) (number : ℕ) (call : RecordedCall) : Type 0 where
  pub recorded : call_at book.history.known.calls number ≡ Some call
  pub era : call.era ≡ book.history.known.eras
  pub is_open : IsOpen book call.lane

-- no place names the call
abbrev pub IsUnplaced : List Placed → ℕ → Type 0
IsUnplaced steps number = AllByRecursion (λ step. step.number ≢ number) steps

-- Begin: the history gets the call
pub record Begins (old : Book) (lane : ℕ) (message : List ℕ) (new : Book) : Type 0 where
  pub running : old.condition ≡ running
  pub is_open : IsOpen old lane
  pub free : has_unanswered lane (xid_of message) (all_happened old.history.events) ≡ false
  pub call : NfsCall
  pub recordable : IsRecordable message call
  pub done : new ≡ record old { history = with_call old.history lane message call }

-- the numbers of the objects that were made, with one more in its order
abbrev pub with_object : ℕ → List ℕ → List ℕ
with_object object [] = object ∷ []
with_object object (first ∷ rest) = if nat_lt object first then object ∷ first ∷ rest else first ∷ with_object object rest

-- with that of a call, if the call made it
abbrev pub with_made : ℕ → Tree → List ℕ → List ℕ
with_made number after made = if is_some (entry_of after number) then with_object number made else made

-- the call's reply, as a message
abbrev pub reply_message : ℕ → NfsReply → List ℕ
reply_message xid reply = reply_text xid (success (result_text reply))

-- a message with this reply, to the call of another message
pub record IsAnswerTo (asked answer : List ℕ) (reply : NfsReply) : Type 0 where
  pub head : CallValue
  pub is_call : IsCall asked head
  pub results : List ℕ
  pub is_reply : IsReply answer (record { xid = head.xid; body = success results })
  pub is_result : IsResult head.procedure results reply
  pub xid : xid_of answer ≡ xid_of asked

-- the record of a call in the journal
abbrev pub journal_record : ℕ → List ℕ → List ℕ → List ℕ
journal_record number message reply = record_text (record { number = number; call = message; reply = reply })

abbrev pub with_record : Bool → List ℕ → Device → Device
with_record true bytes device = record device { records = device.records ++ bytes ∷ [] }
with_record false bytes device = device

-- the message of a call stands at the event with which it began
abbrev pub HasMessage : Book → RecordedCall → List ℕ → Type 0
HasMessage book call message = slice_get book.history.events (call.begin - 1) ≡ Some (events.Call call.lane message)

-- a reply shows no other write verifier than the era's number
abbrev pub ShowsEra : Book → NfsCall → NfsReply → Type 0
ShowsEra book call reply = IfSome (verifier_of call (outcomes.Received reply)) (λ verifier. verifier ≡ book.history.known.eras)

abbrev pub step_of : ℕ → NfsCall → NfsReply → Placed
step_of number call reply = record { number = number; call = call; outcome = outcomes.Received reply }

-- Place: the call comes next in the serial order, with this reply; the journal gets its record, if it is a success of a procedure that
-- changes the tree
pub record Places (old : Book) (number : ℕ) (reply : NfsReply) (new : Book) : Type 0 where
  pub running : old.condition ≡ running
  -- its object's handle, if it makes one, has eight bytes
  pub numbered : object_in old number < 2 ^ 64
  pub recorded : RecordedCall
  pub call : NfsCall
  pub message : List ℕ
  pub of_now : IsOfNow old number recorded
  pub judged : recorded.meaning ≡ meanings.Judged call
  pub sent : HasMessage old recorded message
  pub unplaced : IsUnplaced old.placed number
  pub before : Tree
  pub after : Tree
  pub stood : tree_of old ≡ Some before
  pub next : next_by (setting_made old.history.known.head (with_made (object_in old number) after old.made)) before number call (outcomes.Received reply) ≡ Some after
  pub served : IsServed (bindings old) before (object_in old number) call reply
  pub verifier : ShowsEra old call reply
  -- a message can hold it, as an answer to the call's
  pub answers : IsAnswerTo message (reply_message recorded.xid reply) reply
  pub within : length (reply_message recorded.xid reply) ≤ record_limit
  pub done : new
      ≡ record old {
        placed = old.placed ++ step_of number call reply ∷ [];
        made = with_made (object_in old number) after old.made;
        device = with_record (is_recorded (step_of number call reply)) (journal_record number message (reply_message recorded.xid reply)) old.device;
      }

-- Flush: all records are on stable storage
pub record Flushes (old new : Book) : Type 0 where
  pub running : old.condition ≡ running
  pub done : new ≡ record old { device = record old.device { mark = length old.device.records } }

-- a reply that promises that the call outlives a crash (RFC 1813, section 4.7): of a call that changed the tree, but for a WRITE that was
-- answered UNSTABLE
abbrev pub IsPromise : Placed → Type 0
IsPromise step = effect_of None step.call step.outcome ≡ Lasting

abbrev pub is_commit : NfsCall → Bool
is_commit (calls.Commit call) = true
is_commit call = false

-- a COMMIT that succeeded
abbrev pub commits : Placed → Bool
commits step = is_commit step.call && is_some (commit_success step.outcome)

-- the reply may go out: what it promises is on stable storage, and so is, for a COMMIT, what was placed ahead of it
abbrev pub IsDurable : ℕ → ℕ → List Placed → Placed → Type 0
IsDurable kept mark ahead step = (IsPromise step → kept + records_in (ahead ++ step ∷ []) ≤ mark) × (commits step ≡ true → kept + records_in ahead ≤ mark)

-- Answer: the history gets the reply that the call was placed with
pub record Answers (old : Book) (number : ℕ) (new : Book) : Type 0 where
  pub running : old.condition ≡ running
  pub recorded : RecordedCall
  pub call : NfsCall
  pub message : List ℕ
  pub answer : List ℕ
  pub of_now : IsOfNow old number recorded
  pub judged : recorded.meaning ≡ meanings.Judged call
  pub sent : HasMessage old recorded message
  pub unanswered : recorded.«end» ≡ None
  pub ahead : List Placed
  pub step : Placed
  pub behind : List Placed
  pub placed : old.placed ≡ ahead ++ step ∷ behind
  pub named : step.number ≡ number
  pub reply : NfsReply
  pub received : step.outcome ≡ outcomes.Received reply
  pub answers : IsAnswerTo message answer reply
  -- the same bytes as in the journal
  pub spelled : answer ≡ reply_message recorded.xid reply
  pub durable : IsDurable (records_kept old) old.device.mark ahead step
  pub done : new ≡ record old { history = with_reply old.history number recorded.lane answer step.outcome }

-- Close: the history gets the close of a lane
pub record Closes (old : Book) (lane : ℕ) (new : Book) : Type 0 where
  pub is_open : IsOpen old lane
  pub done : new ≡ record old { history = with_close old.history lane }

-- Crash: the device keeps so many records, among them all that are on stable storage, and the next era begins
pub record Crashes (old : Book) (keep : ℕ) (new : Book) : Type 0 where
  pub alive : old.condition ≢ dead
  pub least : old.device.mark ≤ keep
  pub most : keep ≤ length old.device.records
  pub done : new
      ≡ record {
        history = with_crash old.history;
        over = old.over ++ record { steps = old.placed; kept = front_with (keep - records_kept old) old.placed } ∷ [];
        placed = [];
        made = old.made;
        device = record { records = take keep old.device.records; mark = keep; faults = old.device.faults };
        condition = running;
      }

-- a book that is down stays so until a crash, and a dead one for good
abbrev pub MayBecome : Condition → Condition → Type 0
MayBecome running condition = Unit {0}
MayBecome down running = ⊥
MayBecome down condition = Unit {0}
MayBecome dead dead = Unit {0}
MayBecome dead condition = ⊥

-- a refusal changes nothing but the condition, how often the device has failed, and the room that is set aside for a crash; a book whose
-- device has just failed doesn't run
pub record Refuses (old new : Book) : Type 0 where
  pub condition : Condition
  pub faults : ℕ
  pub spare : ℕ
  pub may_become : MayBecome old.condition condition
  pub counted : (faults ≡ old.device.faults) ⊎ ((faults ≡ old.device.faults + 1) × (condition ≢ running))
  pub done : new
      ≡ record old {
        history = record old.history { spare = spare };
        device = record old.device { faults = faults };
        condition = condition;
      }

-- one of these steps
pub data Steps (old new : Book) : Type 0 where
  begins : (lane : ℕ) (message : List ℕ) → Begins old lane message new → Steps old new
  places : (number : ℕ) (reply : NfsReply) → Places old number reply new → Steps old new
  flushes : Flushes old new → Steps old new
  answers : (number : ℕ) → Answers old number new → Steps old new
  closes : (lane : ℕ) → Closes old lane new → Steps old new
  crashes : (keep : ℕ) → Crashes old keep new → Steps old new
  refuses : Refuses old new → Steps old new

-- a book ahead of its first step, of a server that held these objects at first, over an empty device that has failed so often
abbrev pub opening_book : Profile → List StartObject → ℕ → Book
opening_book profile start faults =
    record {
      history = record { known = record { head = record { root = handle_of 0; start = start; profile = profile }; eras = 1; calls = [] }; events = []; spare = 0 };
      over = [];
      placed = [];
      made = range_with_len 1 (length start);
      device = record { records = []; mark = 0; faults = faults };
      condition = running;
    }

-- books of which each is a step behind the one before
abbrev pub IsRun : Book → List Book → Type 0
IsRun book [] = Unit {0}
IsRun book (next ∷ books) = Steps book next × IsRun next books
