-- Believed.
-- The words that are printed of a fault of a history: its name, and what it names (words of this project's own).
use Rattle.std.specs.Prelude.{ℕ, List, ◌∷◌, ◌++◌, codes, decimal}
use Rattle.nfs_history.specs.declared.fault.Which.{Which}
use Rattle.nfs_history.specs.declared.fault.Which.TheVariants as which
use Rattle.nfs_history.specs.declared.fault.EventFault.{EventFault}
use Rattle.nfs_history.specs.declared.fault.EventFault.TheVariants as events
use Rattle.nfs_history.specs.declared.fault.CallFault.{CallFault}
use Rattle.nfs_history.specs.declared.fault.CallFault.TheVariants as calls
use Rattle.nfs_history.specs.declared.fault.HistoryFault.{HistoryFault}
use Rattle.nfs_history.specs.declared.fault.HistoryFault.TheVariants as faults

abbrev pub which_words : Which → List ℕ
which_words which.Link = codes "Link"
which_words which.Node = codes "Node"
which_words which.CountDiffers = codes "CountDiffers"
which_words which.TooFar = codes "TooFar"

abbrev pub event_fault_words : EventFault → List ℕ
event_fault_words (events.LaneClosed i) = codes "LaneClosed " ++ decimal i
event_fault_words (events.BadRpc i) = codes "BadRpc " ++ decimal i
event_fault_words (events.XidInUse i) = codes "XidInUse " ++ decimal i
event_fault_words (events.NoSuchCall i) = codes "NoSuchCall " ++ decimal i

abbrev pub call_fault_words : CallFault → List ℕ
call_fault_words (calls.Sealed i) = codes "Sealed " ++ decimal i
call_fault_words (calls.BadArgs i) = codes "BadArgs " ++ decimal i
call_fault_words (calls.BadResult i) = codes "BadResult " ++ decimal i
call_fault_words (calls.Outside i w) = codes "Outside " ++ (decimal i ++ (32 ∷ which_words w))

abbrev pub history_fault_words : HistoryFault → List ℕ
history_fault_words faults.BadMagic = codes "BadMagic"
history_fault_words faults.TooLarge = codes "TooLarge"
history_fault_words faults.Truncated = codes "Truncated"
history_fault_words faults.Trailing = codes "Trailing"
history_fault_words (faults.BadStart k) = codes "BadStart " ++ decimal k
history_fault_words faults.BadProfile = codes "BadProfile"
history_fault_words (faults.BadEvent i) = codes "BadEvent " ++ decimal i
history_fault_words (faults.LaneClosed i) = codes "LaneClosed " ++ decimal i
history_fault_words (faults.BadRpc i) = codes "BadRpc " ++ decimal i
history_fault_words (faults.XidInUse i) = codes "XidInUse " ++ decimal i
history_fault_words (faults.NoSuchCall i) = codes "NoSuchCall " ++ decimal i
history_fault_words (faults.Sealed i) = codes "Sealed " ++ decimal i
history_fault_words (faults.BadArgs i) = codes "BadArgs " ++ decimal i
history_fault_words (faults.BadResult i) = codes "BadResult " ++ decimal i
history_fault_words (faults.Outside i w) = codes "Outside " ++ (decimal i ++ (32 ∷ which_words w))
history_fault_words faults.NoMemory = codes "out of memory"
