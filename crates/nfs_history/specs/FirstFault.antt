-- Believed.
-- The first fault of a file of a history: those of the file, then those of its events, then those of its calls (an order
-- of this project's own).
use Rattle.std.specs.Prelude.{◌≡◌, ◌⊎◌, ℕ, List, []}
use Rattle.history_file.specs.declared.fault.FileFault.{FileFault}
use Rattle.history_file.specs.Event.{Event, Recording}
use Rattle.history_file.specs.HistoryFile.{HistoryFile}
use Rattle.history_file.specs.FileFaults.{IsFileFault}
use Rattle.nfs_history.specs.declared.fault.EventFault.{EventFault}
use Rattle.nfs_history.specs.declared.fault.CallFault.{CallFault}
use Rattle.nfs_history.specs.declared.fault.HistoryFault.{HistoryFault}
use Rattle.nfs_history.specs.JoinedFaults.{of_file, of_event, of_call}
use Rattle.nfs_history.specs.Calls.{calls_of}
use Rattle.nfs_history.specs.Standing.{EachMayFollow}
use Rattle.nfs_history.specs.EventFaults.{FirstEventFault}
use Rattle.nfs_history.specs.CallFaults.{FirstCallFault}

-- of events that can be read: the first event at fault, else the first call
abbrev pub FirstFaultOf : List Event → HistoryFault → Type 0
FirstFaultOf events fault =
    ((first : EventFault) × FirstEventFault [] events first × (fault ≡ of_event first))
    ⊎ ((first : CallFault) × EachMayFollow [] events × FirstCallFault 1 (calls_of events) first × (fault ≡ of_call first))

-- of a file
abbrev pub FirstFault : List ℕ → HistoryFault → Type 0
FirstFault bytes fault =
    ((first : FileFault) × IsFileFault bytes first × (fault ≡ of_file first))
    ⊎ (seen : Recording) × HistoryFile bytes seen × FirstFaultOf seen.events fault
