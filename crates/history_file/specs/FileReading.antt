-- For the prover, and for callers.
-- A file of a history as it is read, from the front, item by item: what the code's private functions say to the prover.
use Rattle.std.specs.Prelude.{◌≡◌, ℕ, nat_eq, nat_le, if◌then◌else◌, length, drop, List, ◌++◌, Option, Some, None, Result, Ok, Err}
use Rattle.std.specs.List.{starts_with}
use Rattle.std.specs.Option.{option_map_or}
use Rattle.xdr_records.specs.Unread.{Unread, At}
use Rattle.xdr_records.specs.Grammar.{Grammar}
use Rattle.xdr_records.specs.Reading.{reading, bound, all_of, kinds}
use Rattle.history_file.specs.declared.fault.FileFault.{FileFault}
use Rattle.history_file.specs.declared.items.ItemFault.{ItemFault}
use Rattle.history_file.specs.declared.items.ItemFault.TheVariants as told_by
use Rattle.history_file.specs.Event.{Recording}
use Rattle.history_file.specs.declared.fault.FileFault.TheVariants as faults
use Rattle.history_file.specs.Limits.{history_limit}
use Rattle.history_file.specs.declared.version.Version.{Version}
use Rattle.history_file.specs.declared.version.Version.TheVariants.{First, Second}
use Rattle.history_file.specs.Kinds.{kind_of}
use Rattle.history_file.specs.HistoryFile.{recording, magic}

-- which fault an error names
abbrev pub told : ItemFault → Option (At FileFault)
told (told_by.Fault at fault) = Some (record { at = at; kind = fault })
told told_by.NoMemory = None

abbrev pub reading_of : {A : Type 0} → Grammar FileFault A → Unread → Result (A × Unread) (At FileFault)
reading_of g unread = reading kind_of g unread

-- what was read before, and what is still read
abbrev pub with_front : {A : Type 0} → List A → Result (List A × Unread) (At FileFault) → Result (List A × Unread) (At FileFault)
with_front front read = bound read (λ x. Ok (front ++ x.0, x.1))

-- which version a file begins as
abbrev pub version_of : List ℕ → Option Version
version_of bytes =
    if starts_with nat_eq bytes (magic First) then Some First
    else if starts_with nat_eq bytes (magic Second) then Some Second else None

-- what is read of a whole file of a version, or its first fault: of its size, of the items behind the magic
abbrev pub file_of_version : Version → List ℕ → Result Recording FileFault
file_of_version version bytes =
    if nat_le (length bytes) history_limit then kinds (all_of kind_of (recording version) (drop 8 bytes)) else Err faults.TooLarge

-- what is read of a whole file, or its first fault: of its magic, else of what follows
abbrev pub file_of : List ℕ → Result Recording FileFault
file_of bytes = option_map_or (λ version. file_of_version version bytes) (version_of bytes) (Err faults.BadMagic)

-- a value is this answer's, and an error is its fault, or want of memory
abbrev pub IsAnswer : {X Y : Type 0} → (X → Y) → Result X FileFault → Result Y FileFault → Type 0
IsAnswer view (Ok x) answer = answer ≡ Ok (view x)
IsAnswer view (Err faults.NoMemory) answer = Unit {0}
IsAnswer view (Err fault) answer = answer ≡ Err fault
