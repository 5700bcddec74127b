-- For the prover, and for callers.
-- The one spelling of a history that is written, in the items of RFC 4506, and its limits.
use Rattle.std.specs.Prelude.{◌⊎◌, ℕ, ◌<◌, ◌≤◌, ◌^◌, List, [], ◌∷◌, ◌++◌, length, Result, Ok, Err}
use Rattle.xdr_records.specs.Texts.{word_text, long_text, opaque_text}
use Rattle.xdr_records.specs.Record.{record_limit}
use Rattle.history_file.specs.Limits.{history_limit, event_limit, root_limit}
use Rattle.history_file.specs.declared.writing.WriteFault.{WriteFault}
use Rattle.history_file.specs.declared.writing.WriteFault.TheVariants as faults
use Rattle.history_file.specs.Event.{Event}
use Rattle.history_file.specs.Event.Event.{call, reply, close, crash}
use Rattle.tree_starts.specs.Head.{Head}
use Rattle.tree_starts.specs.declared.object.StartObject.{StartObject}
use Rattle.tree_starts.specs.declared.object.StartNode.{StartNode}
use Rattle.tree_starts.specs.declared.object.StartNode.TheVariants as nodes
use Rattle.tree_starts.specs.declared.profile.Profile.{Profile}
use Rattle.tree_starts.specs.declared.profile.Profile.TheVariants.{Plain, Strict}
use Rattle.history_file.specs.declared.version.Version.TheVariants.{First, Second}
use Rattle.history_file.specs.HistoryFile.{magic}

abbrev pub event_text : Event → List ℕ
event_text (call lane message) = word_text 0 ++ (word_text lane ++ opaque_text message)
event_text (reply lane message) = word_text 1 ++ (word_text lane ++ opaque_text message)
event_text (close lane) = word_text 2 ++ word_text lane
event_text crash = word_text 3

abbrev pub events_text : List Event → List ℕ
events_text [] = []
events_text (e ∷ events) = event_text e ++ events_text events

-- the events with their number
abbrev pub counted_text : List Event → List ℕ
counted_text events = word_text (length events) ++ events_text events

-- a file of version 1
abbrev pub file_text : List ℕ → List Event → List ℕ
file_text root events = magic First ++ (opaque_text root ++ counted_text events)

abbrev pub node_text : StartNode → List ℕ
node_text (nodes.File bytes) = word_text 1 ++ opaque_text bytes
node_text nodes.Directory = word_text 2
node_text (nodes.Link text) = word_text 5 ++ opaque_text text

abbrev pub object_text : StartObject → List ℕ
object_text o = long_text o.parent ++ (opaque_text o.name ++ node_text o.node)

abbrev pub objects_text : List StartObject → List ℕ
objects_text [] = []
objects_text (o ∷ objects) = object_text o ++ objects_text objects

abbrev pub profile_number : Profile → ℕ
profile_number Plain = 0
profile_number Strict = 1

-- what stands ahead of the events in a file of version 2
abbrev pub head_text : Head → List ℕ
head_text head = magic Second ++ (opaque_text head.root ++ (word_text (profile_number head.profile) ++ (word_text (length head.start) ++ objects_text head.start)))

-- a file of version 2
abbrev pub file_text_from : Head → List Event → List ℕ
file_text_from head events = head_text head ++ counted_text events

-- the lane is a word, and the message is within the limit of a record
abbrev pub EventFits : Event → Type 0
EventFits (call lane message) = (lane < 2 ^ 32) × (length message ≤ record_limit)
EventFits (reply lane message) = (lane < 2 ^ 32) × (length message ≤ record_limit)
EventFits (close lane) = lane < 2 ^ 32
EventFits crash = Unit {0}

-- the message is over the limit
abbrev pub IsLong : Event → Type 0
IsLong (call lane message) = record_limit < length message
IsLong (reply lane message) = record_limit < length message
IsLong (close lane) = ⊥
IsLong crash = ⊥

abbrev pub SomeLong : List Event → Type 0
SomeLong [] = ⊥
SomeLong (e ∷ events) = IsLong e ⊎ SomeLong events

-- a limit is passed by the root handle, the number of events, a message or a file of this text
abbrev pub IsOver : List ℕ → List Event → List ℕ → Type 0
IsOver root events text = (root_limit < length root) ⊎ (event_limit < length events) ⊎ SomeLong events ⊎ (history_limit < length text)

abbrev pub IsOverLimit : List ℕ → List Event → Type 0
IsOverLimit root events = IsOver root events (file_text root events)

-- the same of a file of version 2
abbrev pub IsOverLimitFrom : Head → List Event → Type 0
IsOverLimitFrom head events = IsOver head.root events (file_text_from head events)

-- TooLarge is answered only where this holds
abbrev pub IsLargeOnlyIf : {X : Type 0} → Type 0 → Result X WriteFault → Type 0
IsLargeOnlyIf P (Ok x) = Unit {0}
IsLargeOnlyIf P (Err faults.TooLarge) = P
IsLargeOnlyIf P (Err faults.NoMemory) = Unit {0}
