-- For the prover, and for callers.
-- The history of the first events of a file, where all of them are refused (this project's own).
use Rattle.std.specs.Prelude.{◌≡◌, ℕ, Bool, true, false, List, take, Option, Some, None}
use Rattle.history_file.specs.Event.{Recording}
use Rattle.history_file.specs.HistoryFile.{HistoryFile}
use Rattle.nfs_history.specs.declared.fault.HistoryFault.{HistoryFault}
use Rattle.nfs_history.specs.declared.fault.HistoryFault.TheVariants as faults
use Rattle.nfs_history.specs.HistoryValue.{HistoryValue}
use Rattle.nfs_history.specs.FirstFault.{FirstFault}
use Rattle.nfs_history.specs.History.{IsHistory, IsHistoryFile}

-- the history of some first events of a file, beginning with what the file begins with
pub record IsOfFirst (bytes : List ℕ) (history : HistoryValue) : Type 0 where
  pub seen : Recording
  pub file : HistoryFile bytes seen
  pub count : ℕ
  pub first : IsHistory (record { head = seen.head; events = take count seen.events }) history
  pub bare : history.spare ≡ 0

-- of all, where the file isn't refused; else it is refused for its first fault
pub record IsFrontOf (bytes : List ℕ) (refusal : Option HistoryFault) (history : HistoryValue) : Type 0 where
  pub of_first : IsOfFirst bytes history
  pub whole : refusal ≡ None → IsHistoryFile bytes history
  pub why : (fault : HistoryFault) → refusal ≡ Some fault → FirstFault bytes fault

-- a fault of events that can be read, or of their calls
abbrev pub is_of_events : HistoryFault → Bool
is_of_events (faults.LaneClosed i) = true
is_of_events (faults.BadRpc i) = true
is_of_events (faults.XidInUse i) = true
is_of_events (faults.NoSuchCall i) = true
is_of_events (faults.Sealed n) = true
is_of_events (faults.BadArgs n) = true
is_of_events (faults.BadResult n) = true
is_of_events (faults.Outside n which) = true
is_of_events fault = false
