-- Believed.
-- The file of a history, versions 1 and 2 (this project's own format, in the items of RFC 4506).
use Rattle.std.specs.Prelude.{◌≡◌, ℕ, zero, suc, ◌+◌, ◌≤◌, nat_le, if◌then◌else◌, List, [], ◌∷◌, ◌++◌, length, codes, Result, Ok, Err}
use Rattle.xdr_records.specs.Grammar.{Grammar, ◌>>=◌}
use Rattle.xdr_records.specs.Grammar.Grammar.{one_word, one_opaque, named, nothing}
use Rattle.xdr_records.specs.Spelling.{Spells}
use Rattle.xdr_records.specs.Record.{record_limit}
use Rattle.history_file.specs.declared.fault.FileFault.{FileFault}
use Rattle.history_file.specs.declared.fault.FileFault.TheVariants as faults
use Rattle.history_file.specs.declared.file.EventKind.{EventKind}
use Rattle.history_file.specs.declared.file.EventKind.TheVariants as kinds
use Rattle.history_file.specs.Limits.{history_limit, event_limit, root_limit}
use Rattle.tree_starts.specs.Head.{plain_head}
use Rattle.history_file.specs.declared.version.Version.{Version}
use Rattle.history_file.specs.declared.version.Version.TheVariants.{First, Second}
use Rattle.history_file.specs.Starting.{profile_word, object_count, objects}
use Rattle.history_file.specs.Event.{Event, Recording}
use Rattle.history_file.specs.Event.Event.{call, reply, close, crash}

-- the kind word of event i
abbrev pub event_kind : ℕ → ℕ → Result EventKind FileFault
event_kind i zero = Ok kinds.Call
event_kind i (suc zero) = Ok kinds.Reply
event_kind i (suc (suc zero)) = Ok kinds.Close
event_kind i (suc (suc (suc zero))) = Ok kinds.Crash
event_kind i (suc (suc (suc (suc n)))) = Err (faults.BadEvent i)

-- a record of RPC, within its limit
unfoldable pub message : Grammar FileFault (List ℕ)
message = one_opaque record_limit

abbrev pub event_of : EventKind → Grammar FileFault Event
event_of kinds.Call = do
  lane ← one_word
  bytes ← message
  nothing (call lane bytes)
event_of kinds.Reply = do
  lane ← one_word
  bytes ← message
  nothing (reply lane bytes)
event_of kinds.Close = do
  lane ← one_word
  nothing (close lane)
event_of kinds.Crash = nothing crash

-- event i
unfoldable pub event : ℕ → Grammar FileFault Event
event i = named (event_kind i) >>= event_of

-- so many events, numbered from i on
unfoldable pub events : ℕ → ℕ → Grammar FileFault (List Event)
events zero i = nothing []
events (suc n) i = do
  first ← event i
  others ← events n (i + 1)
  nothing (first ∷ others)

-- within the limit
abbrev pub event_count : ℕ → Result ℕ FileFault
event_count n = if nat_le n event_limit then Ok n else Err faults.TooLarge

-- what stands behind the magic: in version 1 no word of what the server held or of how strictly it is judged
unfoldable pub recording : Version → Grammar FileFault Recording
recording First = do
  root ← one_opaque root_limit
  count ← named event_count
  seen ← events count 1
  nothing (record { head = plain_head root; events = seen })
recording Second = do
  root ← one_opaque root_limit
  profile ← named profile_word
  number ← named object_count
  start ← objects number [] 1
  count ← named event_count
  seen ← events count 1
  nothing (record { head = record { root = root; start = start; profile = profile }; events = seen })

abbrev pub magic : Version → List ℕ
magic First = codes "NFSHIST1"
magic Second = codes "NFSHIST2"

-- the bytes of a file are those of a recording
pub record HistoryFile (bytes : List ℕ) (seen : Recording) : Type 0 where
  pub version : Version
  pub body : List ℕ
  pub parts : bytes ≡ magic version ++ body
  pub small : length bytes ≤ history_limit
  pub spelled : Spells (recording version) body seen
