-- For the prover, and for callers.
-- What is said of a run that gave no history: an exit status and a line (words of this project's own).
use Rattle.std.specs.Prelude.{◌≡◌, ◌⊎◌, ℕ, List, [], ◌∷◌, ◌++◌, codes}
use Rattle.plan_text.specs.declared.reading.PlanFault.{PlanFault}
use Rattle.plan_text.specs.declared.reading.PlanFault.TheVariants as plans
use Rattle.plan_text.specs.FaultText.{plan_fault_words}
use Rattle.nfs_history.specs.declared.fault.HistoryFault.{HistoryFault}
use Rattle.nfs_history.specs.declared.fault.HistoryFault.TheVariants as histories
use Rattle.nfs_history.specs.FaultText.{history_fault_words}
use Rattle.history_file.specs.declared.writing.WriteFault.{WriteFault}
use Rattle.history_file.specs.declared.writing.WriteFault.TheVariants as writes
use Rattle.server_passes.specs.declared.fault.CloseFault.{CloseFault}
use Rattle.server_passes.specs.declared.fault.CloseFault.TheVariants as closes
use Rattle.crash_harness.specs.journal_server_specs.declared.fault.CrashFault.TheVariants as crashes
use Rattle.crash_harness.specs.declared.end.RunEnd.{RunEnd}
use Rattle.crash_harness.specs.declared.end.RunEnd.TheVariants as run_ends
use Rattle.crash_harness.specs.journal_server_specs.FaultText.{crash_fault_words}
use Rattle.server_passes.specs.FaultText.{close_fault_words}
use Rattle.program_streams.specs.Told.{refused_line, memory_line}
use Rattle.serving_commands.specs.declared.fault.RunFault.{RunFault}
use Rattle.serving_commands.specs.declared.fault.RunFault.TheVariants as faults

abbrev pub fault_status : RunFault → ℕ
fault_status (faults.Crash fault) = 1
fault_status (faults.Close fault) = 1
fault_status faults.NoMemory = 3
fault_status fault = 2

abbrev pub fault_line : RunFault → List ℕ
fault_line (faults.BadPlan line) = refused_line (plan_fault_words (plans.BadPlan line))
fault_line (faults.Start fault) = codes "refused: start: " ++ history_fault_words fault ++ 10 ∷ []
fault_line faults.CannotReadStart = refused_line (codes "start: cannot read")
fault_line faults.CannotListen = refused_line (codes "cannot listen")
fault_line faults.NoThread = refused_line (codes "no thread")
fault_line faults.PartStands = refused_line (codes "a .part of an earlier recording is there: mend it, or remove it")
fault_line faults.CannotWrite = refused_line (codes "cannot write")
fault_line (faults.Crash fault) = codes "crash: " ++ crash_fault_words fault ++ 10 ∷ []
fault_line (faults.Close fault) = codes "close: " ++ close_fault_words fault ++ 10 ∷ []
fault_line faults.NoMemory = memory_line

-- why a plan isn't run
abbrev pub plan_told : PlanFault → RunFault
plan_told (plans.BadPlan line) = faults.BadPlan line
plan_told plans.NoMemory = faults.NoMemory

-- why a history isn't begun from
abbrev pub start_told : HistoryFault → RunFault
start_told histories.NoMemory = faults.NoMemory
start_told fault = faults.Start fault

-- why a history isn't written
abbrev pub write_told : WriteFault → RunFault
write_told writes.TooLarge = faults.CannotWrite
write_told writes.NoMemory = faults.NoMemory

-- why a server didn't close, and why a run ended
abbrev pub close_told : CloseFault → RunFault
close_told closes.NoMemory = faults.NoMemory
close_told fault = faults.Close fault

abbrev pub end_told : RunEnd → RunFault
end_told (run_ends.Crash crashes.NoMemory) = faults.NoMemory
end_told (run_ends.Crash fault) = faults.Crash fault
end_told (run_ends.Close fault) = close_told fault
end_told run_ends.NoMemory = faults.NoMemory

-- memory ran out
abbrev pub IsWant : RunFault → Type 0
IsWant fault = fault ≡ faults.NoMemory

-- this line of a plan was told, or memory ran out
abbrev pub IsBadPlan : ℕ → RunFault → Type 0
IsBadPlan k fault = (fault ≡ faults.BadPlan k) ⊎ IsWant fault

-- this fault of the start's file was told, or memory ran out
abbrev pub IsBadStart : HistoryFault → RunFault → Type 0
IsBadStart named fault = (fault ≡ faults.Start named) ⊎ IsWant fault
