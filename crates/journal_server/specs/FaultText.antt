-- Believed.
-- The words that are printed of a fault: its name, and what it names (words of this project's own); and as what a server tells the faults
-- of its book.
use Rattle.std.specs.Prelude.{ℕ, List, ◌++◌, codes, decimal}
use Rattle.recorder.specs.book_ledger_specs.declared.fault.BeginFault.{BeginFault}
use Rattle.recorder.specs.book_ledger_specs.declared.fault.BeginFault.TheVariants as begin_fault
use Rattle.recorder.specs.book_ledger_specs.declared.fault.PlaceFault.{PlaceFault}
use Rattle.recorder.specs.book_ledger_specs.declared.fault.PlaceFault.TheVariants as place_fault
use Rattle.recorder.specs.book_ledger_specs.declared.fault.AnswerFault.{AnswerFault}
use Rattle.recorder.specs.book_ledger_specs.declared.fault.AnswerFault.TheVariants as answer_fault
use Rattle.recorder.specs.book_ledger_specs.declared.fault.CloseFault.{CloseFault}
use Rattle.recorder.specs.book_ledger_specs.declared.fault.CloseFault.TheVariants as close_fault
use Rattle.recorder.specs.book_ledger_specs.declared.fault.CrashFault.{CrashFault}
use Rattle.recorder.specs.book_ledger_specs.declared.fault.CrashFault.TheVariants as book_crash
use Rattle.journal_server.specs.declared.fault.CallFault.{CallFault}
use Rattle.journal_server.specs.declared.fault.CallFault.TheVariants as call_fault
use Rattle.journal_server.specs.declared.fault.JoinFault.{JoinFault}
use Rattle.journal_server.specs.declared.fault.JoinFault.TheVariants as join_fault
use Rattle.journal_server.specs.declared.fault.CrashFault.TheVariants as crash_fault
use Rattle.journal_server.specs.declared.fault.CrashFault as own

abbrev pub call_fault_words : CallFault → List ℕ
call_fault_words call_fault.BadRecord = codes "BadRecord"
call_fault_words call_fault.Down = codes "Down"
call_fault_words (call_fault.EraOver n) = codes "EraOver " ++ decimal n
call_fault_words call_fault.LaneClosed = codes "LaneClosed"
call_fault_words call_fault.XidInUse = codes "XidInUse"
call_fault_words call_fault.NoMemory = codes "out of memory"

abbrev pub join_fault_words : JoinFault → List ℕ
join_fault_words join_fault.TooManyLanes = codes "TooManyLanes"
join_fault_words join_fault.NoMemory = codes "out of memory"

abbrev pub crash_fault_words : own.CrashFault → List ℕ
crash_fault_words crash_fault.Down = codes "Down"
crash_fault_words crash_fault.DeviceFault = codes "DeviceFault"
crash_fault_words crash_fault.NoMemory = codes "out of memory"

-- ---- the faults of the book

abbrev pub begin_told : BeginFault → CallFault
begin_told begin_fault.Down = call_fault.Down
begin_told (begin_fault.EraOver now) = call_fault.EraOver now
begin_told begin_fault.LaneClosed = call_fault.LaneClosed
begin_told begin_fault.BadRecord = call_fault.Down
begin_told begin_fault.XidInUse = call_fault.XidInUse
begin_told begin_fault.NoMemory = call_fault.NoMemory

abbrev pub place_told : PlaceFault → CallFault
place_told place_fault.Down = call_fault.Down
place_told (place_fault.EraOver now) = call_fault.EraOver now
place_told place_fault.LaneClosed = call_fault.LaneClosed
place_told place_fault.OutOfTurn = call_fault.Down
place_told place_fault.NotLegal = call_fault.Down
place_told place_fault.DeviceFault = call_fault.Down
place_told place_fault.NoMemory = call_fault.NoMemory

abbrev pub answer_told : AnswerFault → CallFault
answer_told answer_fault.Down = call_fault.Down
answer_told (answer_fault.EraOver now) = call_fault.EraOver now
answer_told answer_fault.LaneClosed = call_fault.LaneClosed
answer_told answer_fault.OutOfTurn = call_fault.Down
answer_told (answer_fault.NotDurable mark) = call_fault.Down
answer_told answer_fault.NoMemory = call_fault.NoMemory

abbrev pub close_told : CloseFault → CallFault
close_told (close_fault.EraOver now) = call_fault.EraOver now
close_told close_fault.LaneClosed = call_fault.LaneClosed
close_told close_fault.NoMemory = call_fault.NoMemory

abbrev pub crash_told : CrashFault → own.CrashFault
crash_told book_crash.Down = crash_fault.Down
crash_told (book_crash.KeepTooSmall mark) = crash_fault.Down
crash_told (book_crash.KeepTooLarge len) = crash_fault.Down
crash_told book_crash.DeviceFault = crash_fault.DeviceFault
crash_told book_crash.NoMemory = crash_fault.NoMemory
