-- For the prover.
-- What of the parts in memory of a history, and of what it is judged by, is seen.
use Rattle.std.specs.Prelude.{ℕ, ◌+◌, ◌≤◌, List, map, vec_len, vec_capacity}
use Rattle.history_file.specs.tree_starts_specs.Head.{Head}
use Rattle.history_file.specs.declared.event.Event.{Event}
use Rattle.history_file.specs.Owning.{all_happened}
use Rattle.nfs_history.specs.declared.checking.OpenCalls.{OpenCalls}
use Rattle.nfs_history.specs.declared.history.History.TheInside as history
use Rattle.nfs_history.specs.declared.recorded.RecordedCall.{RecordedCall}
use Rattle.nfs_history.specs.declared.knowing.KnownCalls.TheInside as known
use Rattle.nfs_history.specs.HistoryValue.{CallsValue, HistoryValue}
use Rattle.nfs_history.specs.History.{recording_of, IsHistory}
use Rattle.nfs_history.specs.Checking.{Knows}
use Rattle.nfs_history.specs.Matching.{seen_call}
use Rattle.nfs_history.specs.Reread.{known_call}

abbrev pub lent_within : known.Inside → CallsValue
lent_within parts = record { head = parts.head; eras = parts.eras; calls = map known_call (map seen_call parts.seen.items) }

abbrev pub history_of : Head → OpenCalls → List RecordedCall → List Event → ℕ → HistoryValue
history_of head open_calls calls events spare =
    record { known = record { head = head; eras = open_calls.era; calls = calls }; events = events; spare = spare }

abbrev pub value_of : history.Inside → HistoryValue
value_of parts = history_of parts.head parts.open_calls parts.calls.items parts.events.items parts.spare

-- it is the history of its events, and it is known what they leave open
pub record IsOpenAt (value : HistoryValue) (known : OpenCalls) : Type 0 where
  pub history : IsHistory (recording_of value) value
  pub knows : Knows known (all_happened value.events)

-- so it is, and the room that is set aside is there
abbrev pub IsKept : history.Inside → Type 0
IsKept parts = IsOpenAt (value_of parts) parts.open_calls × (vec_len parts.events + parts.spare ≤ vec_capacity parts.events)
