-- Believed.
-- Whether what clients were told is what was recorded: each lane that calls were answered on is told of once, in full, and
-- nothing else is (a history's subhistories at its processes, Herlihy and Wing 1990, section 2).
use Rattle.std.specs.Prelude.{◌≡◌, ◌≢◌, ◌⊎◌, ◌==◌, ℕ, zero, suc, ◌<◌, ◌≤◌, IsTrue, if◌then◌else◌, List, [], length, slice_get, Option, Some, None, is_some, option_map, Result, Ok, Err, Any, count_by, sum_by}
use Rattle.std.specs.List.{filter_map}
use Rattle.std.specs.Option.{option_map_or}
use Rattle.history_file.specs.declared.event.Event.{Event}
use Rattle.history_file.specs.declared.event.Event.TheVariants as events
use Rattle.nfs_history.specs.declared.recorded.RecordedCall.{RecordedCall}
use Rattle.nfs_history.specs.HistoryValue.{HistoryValue}
use Rattle.nfs_history.specs.Precedence.{call_at}
use Rattle.server_passes.specs.PassValue.{ExchangeValue, PassValue}
use Rattle.server_passes.specs.declared.fault.CloseFault.{CloseFault}
use Rattle.server_passes.specs.declared.fault.CloseFault.TheVariants as faults

-- the message of a call or a reply
abbrev pub message_in : Event → List ℕ
message_in (events.Call lane message) = message
message_in (events.Reply lane message) = message
message_in (events.Close lane) = []
message_in events.Crash = []

-- event n of a list, from 1 on
abbrev pub event_at : List Event → ℕ → Option Event
event_at happened zero = None
event_at happened (suc n) = slice_get happened n

-- the message of event n
abbrev pub message_at : List Event → ℕ → List ℕ
message_at happened n = option_map_or message_in (event_at happened n) []

-- the message of a call and that of its reply, where one came
abbrev pub exchange_of : HistoryValue → RecordedCall → Option ExchangeValue
exchange_of history call =
    option_map (λ number. record { message = message_at history.events call.begin; reply = message_at history.events number }) call.«end»

-- the messages are those of a call on the lane and of a reply on it: the events with the numbers that are known of the call
pub record WasRecorded (history : HistoryValue) (call : RecordedCall) (exchange : ExchangeValue) : Type 0 where
  pub asked : event_at history.events call.begin ≡ Some (events.Call call.lane exchange.message)
  pub replied : (number : ℕ) × (call.«end» ≡ Some number) × (event_at history.events number ≡ Some (events.Reply call.lane exchange.reply))

-- the exchanges of the answered calls of a lane, in the order of the calls' numbers
abbrev pub exchanges_on : HistoryValue → ℕ → List ExchangeValue
exchanges_on history lane = filter_map (λ call. if call.lane == lane then exchange_of history call else None) history.known.calls

-- how many calls were answered
abbrev pub answered : HistoryValue → ℕ
answered history = count_by (λ call. is_some call.«end») history.known.calls

-- how many calls the passes tell of
abbrev pub told : List PassValue → ℕ
told passes = sum_by (λ pass. length pass.exchanges) passes

-- two passes have the lane
abbrev pub IsToldTwice : List PassValue → ℕ → Type 0
IsToldTwice passes lane = 2 ≤ count_by (λ pass. pass.lane == lane) passes

-- some pass of the lane tells of other exchanges than these
abbrev pub IsToldOther : List ExchangeValue → List PassValue → ℕ → Type 0
IsToldOther exchanges passes lane = Any (λ pass. (pass.lane ≡ lane) × (pass.exchanges ≢ exchanges)) passes

-- two passes have the lane, or one of it tells of other exchanges than were recorded on it
abbrev pub IsTorn : HistoryValue → List PassValue → ℕ → Type 0
IsTorn history passes lane = IsToldTwice passes lane ⊎ IsToldOther (exchanges_on history lane) passes lane

-- the passes tell of all that was answered, and of nothing else
pub record IsTold (history : HistoryValue) (passes : List PassValue) : Type 0 where
  pub all : told passes ≡ answered history
  pub whole : (lane : ℕ) → ¬ IsTorn history passes lane

-- the lane is the least that is torn
pub record IsLeastTorn (history : HistoryValue) (passes : List PassValue) (lane : ℕ) : Type 0 where
  pub all : told passes ≡ answered history
  pub torn : IsTorn history passes lane
  pub least : (other : ℕ) → other < lane → ¬ IsTorn history passes other

-- why the passes don't tell what was recorded
abbrev pub IsCloseFault : HistoryValue → List PassValue → CloseFault → Type 0
IsCloseFault history passes faults.MissingPass = told passes ≢ answered history
IsCloseFault history passes (faults.Torn lane) = IsLeastTorn history passes lane
IsCloseFault history passes faults.NoMemory = Unit {0}

-- an Ok, or want of memory
abbrev pub IsFineOrNoMemory : {X : Type 0} → Result X CloseFault → Type 0
IsFineOrNoMemory (Ok x) = Unit {0}
IsFineOrNoMemory (Err fault) = fault ≡ faults.NoMemory

-- this error, or want of memory
abbrev pub IsThatOrNoMemory : {X : Type 0} → CloseFault → Result X CloseFault → Type 0
IsThatOrNoMemory fault (Ok x) = ⊥
IsThatOrNoMemory fault (Err named) = (named ≡ faults.NoMemory) ⊎ (named ≡ fault)

-- the lane of each answered call is that of some pass
abbrev pub AreCovered : HistoryValue → List PassValue → Type 0
AreCovered history passes =
    (number : ℕ) (call : RecordedCall) → call_at history.known.calls number ≡ Some call → IsTrue (is_some call.«end») → Any (λ pass. pass.lane ≡ call.lane) passes
