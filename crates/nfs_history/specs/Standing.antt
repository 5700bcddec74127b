-- Believed.
-- Events that may follow one another: each call begins on a lane that is open and has no unanswered call with
-- its transaction number, and each reply answers an unanswered call (a well-formed history, Herlihy and Wing
-- 1990, section 2; crashes as in Izraelevitz, Mendes and Scott 2016; transaction numbers as in RFC 5531, section 9).
use Rattle.std.specs.Prelude.{◌≡◌, ◌⊎◌, ◌==◌, ◌&&◌, ℕ, Bool, true, false, List, [], ◌∷◌, ◌++◌, is_none, Contains}
use Rattle.std.specs.List.{list_any}
use Rattle.rpc_reader.specs.Values.{CallValue, ReplyValue}
use Rattle.rpc_reader.specs.Messages.{IsCall, IsReply}
use Rattle.history_file.specs.Event.{Event}
use Rattle.history_file.specs.Event.Event.{call, reply, close, crash}
use Rattle.nfs_history.specs.declared.checking.LaneState.{LaneState}
use Rattle.nfs_history.specs.declared.checking.LaneState.TheVariants as states
use Rattle.nfs_history.specs.Calls.{CallEvent, calls_of, xid_of}

-- the bytes are the message of a call, or of a reply (RFC 5531, section 9)
abbrev pub CanBeCall : List ℕ → Type 0
CanBeCall message = (value : CallValue) × IsCall message value

abbrev pub CanBeReply : List ℕ → Type 0
CanBeReply message = (value : ReplyValue) × IsReply message value

-- a call with this transaction number is unanswered on the lane
abbrev pub is_unanswered : ℕ → ℕ → CallEvent → Bool
is_unanswered lane xid c = ((c.lane == lane) && (xid_of c.message == xid)) && is_none c.answer

abbrev pub has_unanswered : ℕ → ℕ → List Event → Bool
has_unanswered lane xid before = list_any (is_unanswered lane xid) (calls_of before)

-- the event is one of the lane
abbrev pub IsOn : ℕ → Event → Type 0
IsOn lane (call on message) = on ≡ lane
IsOn lane (reply on message) = on ≡ lane
IsOn lane (close on) = on ≡ lane
IsOn lane crash = ⊥

-- an event of the lane, with a crash behind it
pub record IsCutOff (lane : ℕ) (events : List Event) : Type 0 where
  pub ahead : List Event
  pub last : Event
  pub behind : List Event
  pub parts : events ≡ ahead ++ last ∷ behind
  pub on : IsOn lane last
  pub crashed : Contains behind crash

-- the lane is closed: there is a close of it, or an event of it with a crash behind it
abbrev pub IsClosed : ℕ → List Event → Type 0
IsClosed lane before = Contains before (close lane) ⊎ IsCutOff lane before

-- whether events may still come on the lane, and why not
abbrev pub IsLaneState : ℕ → List Event → LaneState → Type 0
IsLaneState lane before states.Open = ¬ IsClosed lane before
IsLaneState lane before states.EraOver = IsCutOff lane before
IsLaneState lane before states.Closed = (¬ IsCutOff lane before) × Contains before (close lane)

-- the event may follow those before it
abbrev pub MayFollow : List Event → Event → Type 0
MayFollow before (call lane message) = (¬ IsClosed lane before) × CanBeCall message × (has_unanswered lane (xid_of message) before ≡ false)
MayFollow before (reply lane message) = (¬ IsClosed lane before) × CanBeReply message × (has_unanswered lane (xid_of message) before ≡ true)
MayFollow before (close lane) = ¬ IsClosed lane before
MayFollow before crash = Unit {0}

-- each of the events may follow those before it
abbrev pub EachMayFollow : List Event → List Event → Type 0
EachMayFollow before [] = Unit {0}
EachMayFollow before (e ∷ events) = MayFollow before e × EachMayFollow (before ++ e ∷ []) events
