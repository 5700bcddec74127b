-- For the prover, and for callers.
-- What an answer to a file of a history says of faults.
use Rattle.std.specs.Prelude.{◌≡◌, ◌⊎◌, Result, Ok, Err}
use Rattle.nfs_history.specs.declared.fault.HistoryFault.{HistoryFault}
use Rattle.nfs_history.specs.declared.fault.HistoryFault.TheVariants as faults

-- an Ok, or want of memory
abbrev pub IsFineOrNoMemory : {X : Type 0} → Result X HistoryFault → Type 0
IsFineOrNoMemory (Ok x) = Unit {0}
IsFineOrNoMemory (Err fault) = fault ≡ faults.NoMemory

-- an error is of such a kind, or want of memory
abbrev pub IsErrorOf : {X : Type 0} → (HistoryFault → Type 0) → Result X HistoryFault → Type 0
IsErrorOf Is (Ok x) = Unit {0}
IsErrorOf Is (Err fault) = (fault ≡ faults.NoMemory) ⊎ Is fault

-- this error, or want of memory
abbrev pub IsThatOrNoMemory : {X : Type 0} → HistoryFault → Result X HistoryFault → Type 0
IsThatOrNoMemory fault (Ok x) = ⊥
IsThatOrNoMemory fault (Err named) = (named ≡ faults.NoMemory) ⊎ (named ≡ fault)
