-- Believed.
-- The faults of files, events and calls as those of histories, each under its name (names of this project's own).
use Rattle.history_file.specs.declared.fault.FileFault.{FileFault}
use Rattle.history_file.specs.declared.fault.FileFault.TheVariants as file
use Rattle.nfs_history.specs.declared.fault.EventFault.{EventFault}
use Rattle.nfs_history.specs.declared.fault.EventFault.TheVariants as event
use Rattle.nfs_history.specs.declared.fault.CallFault.{CallFault}
use Rattle.nfs_history.specs.declared.fault.CallFault.TheVariants as call
use Rattle.nfs_history.specs.declared.fault.HistoryFault.{HistoryFault}
use Rattle.nfs_history.specs.declared.fault.HistoryFault.TheVariants as faults

abbrev pub of_file : FileFault → HistoryFault
of_file file.BadMagic = faults.BadMagic
of_file file.TooLarge = faults.TooLarge
of_file file.Truncated = faults.Truncated
of_file (file.BadEvent i) = faults.BadEvent i
of_file (file.BadStart k) = faults.BadStart k
of_file file.BadProfile = faults.BadProfile
of_file file.Trailing = faults.Trailing
of_file file.NoMemory = faults.NoMemory

abbrev pub of_event : EventFault → HistoryFault
of_event (event.LaneClosed i) = faults.LaneClosed i
of_event (event.BadRpc i) = faults.BadRpc i
of_event (event.XidInUse i) = faults.XidInUse i
of_event (event.NoSuchCall i) = faults.NoSuchCall i

abbrev pub of_call : CallFault → HistoryFault
of_call (call.Sealed n) = faults.Sealed n
of_call (call.BadArgs n) = faults.BadArgs n
of_call (call.BadResult n) = faults.BadResult n
of_call (call.Outside n which) = faults.Outside n which
