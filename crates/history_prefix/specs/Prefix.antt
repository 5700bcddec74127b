-- For the prover, and for callers.
-- The file of a prefix: of the first events of a history, and of the later replies to the calls that began among them (this project's
-- own). Where a file's events are refused the history is that of its first events.
use Rattle.std.specs.Prelude.{◌≡◌, ℕ, List, ◌++◌, length, None}
use Rattle.history_file.specs.declared.version.Version.{Version}
use Rattle.history_file.specs.declared.version.Version.TheVariants.{First, Second}
use Rattle.history_file.specs.Event.{Recording}
use Rattle.history_file.specs.HistoryFile.{magic}
use Rattle.history_file.specs.Writing.{file_text, file_text_from}
use Rattle.nfs_history.specs.declared.fault.HistoryFault.{HistoryFault}
use Rattle.nfs_history.specs.declared.fault.HistoryFault.TheVariants as history_faults
use Rattle.nfs_history.specs.HistoryValue.{HistoryValue}
use Rattle.nfs_history.specs.History.{IsHistoryFile, recording_of}
use Rattle.history_prefix.specs.declared.file.PrefixFile.{PrefixFile}
use Rattle.history_prefix.specs.declared.fault.PrefixFault.{PrefixFault}
use Rattle.history_prefix.specs.declared.fault.PrefixFault.TheVariants as faults
use Rattle.history_prefix.specs.Front.{IsFrontOf}
use Rattle.history_prefix.specs.Keeping.{prefix_of}

-- the file of a recording in a version, as it is written
abbrev pub text_as : Version → Recording → List ℕ
text_as First seen = file_text seen.head.root seen.events
text_as Second seen = file_text_from seen.head seen.events

-- the bytes are the file of a history, or begin with one, and what is given is the file of its prefix, in the same version: the file of a history too
pub record IsPrefixOf (bytes : List ℕ) (last : ℕ) (given : PrefixFile) : Type 0 where
  pub history : HistoryValue
  pub front : IsFrontOf bytes given.refusal history
  pub version : Version
  pub body : List ℕ
  pub begins : bytes ≡ magic version ++ body
  pub text : given.bytes.items ≡ text_as version (prefix_of history last)
  pub count : given.events ≡ length (prefix_of history last).events
  pub part : HistoryValue
  pub part_file : IsHistoryFile given.bytes.items part
  pub of_part : recording_of part ≡ prefix_of history last

-- of a history that isn't refused
abbrev pub IsWhole : PrefixFile → Type 0
IsWhole given = given.refusal ≡ None

-- why bytes give no prefix that can't be read
abbrev pub told_of : HistoryFault → PrefixFault
told_of history_faults.NoMemory = faults.NoMemory
told_of fault = faults.BadHistory fault

-- bytes with this fault are refused for it, memory aside
abbrev pub IsRefusalOf : HistoryFault → PrefixFault → Type 0
IsRefusalOf fault (faults.BadHistory named) = named ≡ fault
IsRefusalOf fault faults.NoMemory = Unit {0}
IsRefusalOf fault (faults.NoHistory other) = ⊥
IsRefusalOf fault faults.TooLarge = ⊥
