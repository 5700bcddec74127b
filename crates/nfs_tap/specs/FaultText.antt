-- For the prover, and for callers.
-- The words that are printed of a log's refusal and of a pump's end: its name, and what it names (words of this project's own).
use Rattle.std.specs.Prelude.{ℕ, List, ◌++◌, codes}
use Rattle.nfs_tap.specs.declared.fault.NoteFault.{NoteFault}
use Rattle.nfs_tap.specs.declared.fault.NoteFault.TheVariants as faults
use Rattle.nfs_tap.specs.declared.pump.PumpEnd.{PumpEnd}
use Rattle.nfs_tap.specs.declared.pump.PumpEnd.TheVariants as ends

abbrev pub note_fault_words : NoteFault → List ℕ
note_fault_words faults.LaneClosed = codes "LaneClosed"
note_fault_words faults.BadRpc = codes "BadRpc"
note_fault_words faults.XidInUse = codes "XidInUse"
note_fault_words faults.NoSuchCall = codes "NoSuchCall"
note_fault_words faults.NoMemory = codes "out of memory"

abbrev pub pump_end_words : PumpEnd → List ℕ
pump_end_words ends.End = codes "End"
pump_end_words ends.ReadFault = codes "ReadFault"
pump_end_words ends.WriteFault = codes "WriteFault"
pump_end_words ends.RecordTooLong = codes "RecordTooLong"
pump_end_words (ends.LogFault fault) = codes "LogFault " ++ note_fault_words fault
pump_end_words ends.LogFull = codes "LogFull"
pump_end_words ends.Bound = codes "Bound"
pump_end_words ends.NoMemory = codes "out of memory"
