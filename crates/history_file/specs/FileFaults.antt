-- Believed.
-- The first fault of a history file: of its magic, else of its size, else of the items behind the magic (an order of this
-- project's own; items as in RFC 4506).
use Rattle.std.specs.Prelude.{◌≡◌, ◌⊎◌, ℕ, ◌<◌, ◌≤◌, List, ◌++◌, length, Result, Ok, Err}
use Rattle.xdr_records.specs.Faults.{AllFails}
use Rattle.history_file.specs.declared.fault.FileFault.{FileFault}
use Rattle.history_file.specs.declared.fault.FileFault.TheVariants as faults
use Rattle.history_file.specs.Limits.{history_limit}
use Rattle.history_file.specs.declared.version.Version.{Version}
use Rattle.history_file.specs.Kinds.{kind_of}
use Rattle.history_file.specs.HistoryFile.{recording, magic}

-- the bytes begin as a history file does
abbrev pub BeginsAsFile : List ℕ → Type 0
BeginsAsFile bytes = (version : Version) × (body : List ℕ) × (bytes ≡ magic version ++ body)

-- behind the magic an item is the first at fault, or bytes stand behind the last one
pub record IsItemFault (bytes : List ℕ) (fault : FileFault) : Type 0 where
  pub version : Version
  pub body : List ℕ
  pub parts : bytes ≡ magic version ++ body
  pub small : length bytes ≤ history_limit
  pub at : ℕ
  pub fails : AllFails kind_of (recording version) body (record { at = at; kind = fault })

-- the first fault of the bytes
abbrev pub IsFileFault : List ℕ → FileFault → Type 0
IsFileFault bytes fault =
    ((¬ BeginsAsFile bytes) × (fault ≡ faults.BadMagic))
    ⊎ (BeginsAsFile bytes × (history_limit < length bytes) × (fault ≡ faults.TooLarge))
    ⊎ IsItemFault bytes fault

-- ---- for the prover, and for callers

-- an Ok, or want of memory
abbrev pub IsFineOrNoMemory : {X : Type 0} → Result X FileFault → Type 0
IsFineOrNoMemory (Ok x) = Unit {0}
IsFineOrNoMemory (Err fault) = fault ≡ faults.NoMemory

-- an error is of such a kind, or want of memory
abbrev pub IsErrorOf : {X : Type 0} → (FileFault → Type 0) → Result X FileFault → Type 0
IsErrorOf Is (Ok x) = Unit {0}
IsErrorOf Is (Err fault) = (fault ≡ faults.NoMemory) ⊎ Is fault

-- this error, or want of memory
abbrev pub IsThatOrNoMemory : {X : Type 0} → FileFault → Result X FileFault → Type 0
IsThatOrNoMemory fault (Ok x) = ⊥
IsThatOrNoMemory fault (Err named) = (named ≡ faults.NoMemory) ⊎ (named ≡ fault)
