-- Believed.
-- a device that keeps a journal: whole records behind one another, of which a barrier makes safe what was appended ahead of it (this
-- project's own, after the write and the flush of a disk)
use Rattle.std.specs.Prelude.{◌≡◌, ℕ, ◌+◌, List, [], ◌∷◌, ◌++◌, length, take, Result, Ok, Err}
use Rattle.journal.specs.declared.device.DevFault.{DevFault}
use Rattle.journal.specs.declared.device.DevFault.TheVariants.{Failed, NoMemory}

-- its records, how many of them are safe from a crash, and how often it has failed
pub record Device : Type 0 where
  pub records : List (List ℕ)
  pub mark : ℕ
  pub faults : ℕ

-- one record more, which isn't safe yet
abbrev pub appended : Device → List ℕ → Device
appended d bytes = record d { records = d.records ++ bytes ∷ [] }

-- all are safe
abbrev pub settled : Device → Device
settled d = record d { mark = length d.records }

-- after a crash that these first ones outlived: they are safe
abbrev pub recovered : Device → ℕ → Device
recovered d keep = record d { records = take keep d.records; mark = keep }

-- a failure is counted, and changes nothing else
abbrev pub with_fault : Device → Device
with_fault d = record d { faults = d.faults + 1 }

-- what a call leaves of the device, where it is to make this of it
abbrev pub Leaves : {A : Type 0} → Device → Device → Result A DevFault → Device → Type 0
Leaves before done (Ok _) after = after ≡ done
Leaves before done (Err Failed) after = after ≡ with_fault before
Leaves before done (Err NoMemory) after = after ≡ before
