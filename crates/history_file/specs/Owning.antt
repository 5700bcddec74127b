-- Believed.
-- Events as a history owns them, events as they stand in a file, and those of the definitions.
use Rattle.std.specs.Prelude.{List, map}
use Rattle.history_file.specs.declared.event.Event as owned
use Rattle.history_file.specs.declared.event.Event.TheVariants as owns
use Rattle.history_file.specs.declared.event.SeenEvent.{SeenEvent}
use Rattle.history_file.specs.declared.event.SeenEvent.TheVariants as sees
use Rattle.history_file.specs.declared.file.SeenRecording.{SeenRecording}
use Rattle.history_file.specs.Event.{Event, Recording}
use Rattle.history_file.specs.Event.Event.{call, reply, close, crash}

abbrev pub happened : owned.Event → Event
happened (owns.Call lane message) = call lane message
happened (owns.Reply lane message) = reply lane message
happened (owns.Close lane) = close lane
happened owns.Crash = crash

abbrev pub all_happened : List owned.Event → List Event
all_happened events = map happened events

-- ---- for the prover, and for callers

-- an event, without where its message lies in memory
abbrev pub seen_event : SeenEvent → Event
seen_event (sees.Call lane message) = call lane message.now
seen_event (sees.Reply lane message) = reply lane message.now
seen_event (sees.Close lane) = close lane
seen_event sees.Crash = crash

abbrev pub all_seen : List SeenEvent → List Event
all_seen events = map seen_event events

-- what stands in a file, without where it lies in memory
abbrev pub recording_value : SeenRecording → Recording
recording_value seen = record { head = record { root = seen.root.now; start = seen.start; profile = seen.profile }; events = all_seen seen.events.items }
