-- For the prover, and for callers.
-- What becomes of a recorder's log where an event is noted. Which events may follow others, and the fault of one that may not, is said of
-- histories (`nfs_history`, Standing and EventFaults).
use Rattle.std.specs.Prelude.{◌≡◌, ◌⊎◌, ◌+◌, List, [], ◌∷◌, ◌++◌, length, Result, Ok, Err, OnOk, OnErr, IfErr}
use Rattle.history_file.specs.Event.{Event, Recording}
use Rattle.nfs_history.specs.declared.fault.EventFault.{EventFault}
use Rattle.nfs_history.specs.declared.fault.EventFault.TheVariants as event
use Rattle.nfs_history.specs.Standing.{MayFollow}
use Rattle.nfs_history.specs.EventFaults.{IsAtFault}
use Rattle.nfs_tap.specs.declared.fault.NoteFault.{NoteFault}
use Rattle.nfs_tap.specs.declared.fault.NoteFault.TheVariants as faults

-- a history's fault of an event, under the name that a log gives it
abbrev pub name_of : EventFault → NoteFault
name_of (event.LaneClosed i) = faults.LaneClosed
name_of (event.BadRpc i) = faults.BadRpc
name_of (event.XidInUse i) = faults.XidInUse
name_of (event.NoSuchCall i) = faults.NoSuchCall

-- behind those before it, the event is at fault, so
abbrev pub IsRefusal : List Event → Event → NoteFault → Type 0
IsRefusal before e refusal = (fault : EventFault) × IsAtFault (length before + 1) before e fault × (refusal ≡ name_of fault)

-- the log with one event more
abbrev pub with_event : Recording → Event → Recording
with_event log e = record { head = log.head; events = log.events ++ e ∷ [] }

-- this error, or want of memory
abbrev pub IsThatOrNoMemory : {X : Type 0} → NoteFault → Result X NoteFault → Type 0
IsThatOrNoMemory fault (Ok x) = ⊥
IsThatOrNoMemory fault (Err named) = (named ≡ faults.NoMemory) ⊎ (named ≡ fault)

-- an Ok, or want of memory
abbrev pub IsFineOrNoMemory : {X : Type 0} → Result X NoteFault → Type 0
IsFineOrNoMemory (Ok x) = Unit {0}
IsFineOrNoMemory (Err fault) = fault ≡ faults.NoMemory

-- the answer to an event that is noted, and the log behind it
pub record Notes {X : Type 0} (old : Recording) (e : Event) (answer : Result X NoteFault) (new : Recording) : Type 0 where
  -- what is noted may follow, and stands behind what was noted before
  pub noted : OnOk answer (MayFollow old.events e × (new ≡ with_event old e))
  -- else the log stays as it was
  pub kept : OnErr answer (new ≡ old)
  -- what may follow is noted, memory aside
  pub only : MayFollow old.events e → IsFineOrNoMemory answer
  -- what is refused has that fault
  pub fault : IfErr answer (λ refusal. (refusal ≡ faults.NoMemory) ⊎ IsRefusal old.events e refusal)
  -- what has a fault is refused so, memory aside
  pub named : (refusal : NoteFault) → IsRefusal old.events e refusal → IsThatOrNoMemory refusal answer
