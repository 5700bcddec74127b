-- For the prover, and for callers.
-- What is left of a history file that is read event by event: what the code's private functions say to the prover.
use Rattle.std.specs.Prelude.{◌≡◌, ◌⊎◌, ℕ, ◌+◌, ◌-◌, List, [], ◌++◌, length, Option, Some, None, Result, Ok, Err}
use Rattle.xdr_records.specs.Unread.{Unread, whole}
use Rattle.xdr_records.specs.Items.{end_at}
use Rattle.xdr_records.specs.Reading.{bound, all_of, kinds}
use Rattle.xdr_records.specs.Kinds.{item_kind, kind_reading}
use Rattle.history_file.specs.declared.fault.FileFault.{FileFault}
use Rattle.history_file.specs.declared.file.EventKind as file
use Rattle.history_file.specs.declared.file.EventKind.TheVariants as file_kinds
use Rattle.tree_starts.specs.Head.{Head}
use Rattle.tree_starts.specs.declared.object.StartObject.{StartObject}
use Rattle.tree_starts.specs.declared.profile.Profile.{Profile}
use Rattle.history_file.specs.declared.fault.FileFault.TheVariants as faults
use Rattle.history_file.specs.declared.version.Version.{Version}
use Rattle.history_file.specs.declared.version.Version.TheVariants.{First, Second}
use Rattle.history_file.specs.Event.{Event, Recording}
use Rattle.history_file.specs.Kinds.{kind_of}
use Rattle.history_file.specs.HistoryFile.{events, recording, HistoryFile}
use Rattle.history_file.specs.FileReading.{file_of}
use Rattle.history_lines.specs.declared.items.EventKind.{EventKind}
use Rattle.history_lines.specs.declared.items.EventKind.TheVariants as read_kinds
use Rattle.history_lines.specs.declared.events.UnreadEvents.{UnreadEvents}

abbrev pub kind_value : EventKind → file.EventKind
kind_value read_kinds.Call = file_kinds.Call
kind_value read_kinds.Reply = file_kinds.Reply
kind_value read_kinds.Close = file_kinds.Close
kind_value read_kinds.Crash = file_kinds.Crash

-- what was read, where nothing stands behind it
abbrev pub with_end : {A : Type 0} → Result (A × Unread) FileFault → Result A FileFault
with_end read = bound read (λ x. bound (item_kind kind_of (end_at x.1)) (λ _. Ok x.0))

-- so many events, numbered from i on, and the end
abbrev pub events_left : ℕ → ℕ → List ℕ → Result (List Event) FileFault
events_left n i rest = with_end (kind_reading kind_of (events n i) (whole rest))

-- a recording of the events that were read, and of those that are left
abbrev pub recorded : Head → List Event → Result (List Event) FileFault → Result Recording FileFault
recorded head front left = bound left (λ others. Ok (record { head = head; events = front ++ others }))

-- what a file holds behind its magic
abbrev pub body_of : Version → List ℕ → Result Recording FileFault
body_of version body = kinds (all_of kind_of (recording version) body)

-- behind the magic and the head so many events are ahead, of which none is read
pub record IsBegun (version : Version) (body : List ℕ) (start : List StartObject) (profile : Profile) (count : ℕ) (rest : List ℕ) : Type 0 where
  pub root : List ℕ
  pub goes_on : body_of version body ≡ recorded (record { root = root; start = start; profile = profile }) [] (events_left count 1 rest)

-- a value is what is read from the front, and an error is what is wrong there, or want of memory
abbrev pub TellsOrNoMemory : {X Y : Type 0} → (X → Y) → Unread → Result X FileFault → Result (Y × Unread) FileFault → Type 0
TellsOrNoMemory view new (Ok x) answer = answer ≡ Ok (view x, new)
TellsOrNoMemory view new (Err fault) answer = (fault ≡ faults.NoMemory) ⊎ (answer ≡ Err fault)

-- an error is such a fault, or where a start may stand in the file want of memory
abbrev pub IsErrorIn : {X : Type 0} → Option Version → (FileFault → Type 0) → Result X FileFault → Type 0
IsErrorIn version Is (Ok x) = Unit {0}
IsErrorIn None Is (Err fault) = Is fault
IsErrorIn (Some First) Is (Err fault) = Is fault
IsErrorIn (Some Second) Is (Err fault) = (fault ≡ faults.NoMemory) ⊎ Is fault

-- what was read of a file, which is so many events, and what is left make the whole
pub record IsLeftOf (bytes : List ℕ) (start : List StartObject) (profile : Profile) (read count : ℕ) (rest : List ℕ) : Type 0 where
  pub root : List ℕ
  pub front : List Event
  pub as_many : length front ≡ read
  pub goes_on : file_of bytes ≡ recorded (record { root = root; start = start; profile = profile }) front (events_left (count - read) (read + 1) rest)

abbrev pub IsLeft : List ℕ → List StartObject → Profile → UnreadEvents → Type 0
IsLeft bytes start profile unread = IsLeftOf bytes start profile unread.read unread.count unread.rest.now

-- the bytes are a file
abbrev pub IsWhole : List ℕ → Type 0
IsWhole bytes = (seen : Recording) × HistoryFile bytes seen
