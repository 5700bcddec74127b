-- For the prover, and for callers.
-- Which events of a history are kept, where it is cut behind an event or some of its calls are left out (this project's own; a call's
-- begin and end are those of a history, Herlihy and Wing 1990, section 2). Events and calls are numbered from 1.
use Rattle.std.specs.Prelude.{◌==◌, ◌&&◌, ◌||◌, not, nat_le, ℕ, ◌+◌, Bool, false, if◌then◌else◌, List, [], ◌∷◌}
use Rattle.std.specs.List.{list_any}
use Rattle.std.specs.Option.{option_map_or}
use Rattle.history_file.specs.Event.{Event, Recording}
use Rattle.history_file.specs.Owning.{all_happened}
use Rattle.nfs_history.specs.declared.recorded.RecordedCall.{RecordedCall}
use Rattle.nfs_history.specs.HistoryValue.{HistoryValue}
use Rattle.nfs_history.specs.Precedence.{call_at}

-- event i is the reply of the call
abbrev pub is_reply : ℕ → RecordedCall → Bool
is_reply i call = option_map_or (λ at. at == i) call.«end» false

-- and the call began at one of the first events
abbrev pub is_reply_within : ℕ → ℕ → RecordedCall → Bool
is_reply_within last i call = nat_le call.begin last && is_reply i call

-- event i is one of the first, or the reply of a call that began at one of them
abbrev pub is_within : List RecordedCall → ℕ → ℕ → Bool
is_within calls last i = nat_le i last || list_any (is_reply_within last i) calls

-- event i is the call, or its reply
abbrev pub is_event_of : ℕ → RecordedCall → Bool
is_event_of i call = (call.begin == i) || is_reply i call

-- event i is that of call n
abbrev pub is_named : List RecordedCall → ℕ → ℕ → Bool
is_named calls i n = option_map_or (is_event_of i) (call_at calls n) false

-- event i is one of none of the calls of these numbers
abbrev pub is_without : List RecordedCall → List ℕ → ℕ → Bool
is_without calls numbers i = not (list_any (is_named calls i) numbers)

-- of events that are numbered from i on those that are kept, in order
abbrev pub kept_from : (ℕ → Bool) → ℕ → List Event → List Event
kept_from keeps i [] = []
kept_from keeps i (e ∷ events) = if keeps i then e ∷ kept_from keeps (i + 1) events else kept_from keeps (i + 1) events

-- the first events of a history, and the later replies to the calls that began among them; with what it begins with
abbrev pub prefix_of : HistoryValue → ℕ → Recording
prefix_of history last = record { head = history.known.head; events = kept_from (is_within history.known.calls last) 1 (all_happened history.events) }
