-- For the prover, and for callers.
-- The log of a server's connections: its events are those of the lanes, in the order of the packets at which they stand. One that may not
-- follow those before it, or has no room, is left out, and told of.
use Rattle.std.specs.Prelude.{◌≡◌, ℕ, List, [], ◌∷◌, ◌++◌, length}
use Rattle.std.specs.List.Sorted.{IsPermutation, IsNonDecreasingBy}
use Rattle.tree_starts.specs.Head.{Head, plain_head}
use Rattle.history_file.specs.Event.{Event, Recording}
use Rattle.history_file.specs.Event.Event.{call, reply, close}
use Rattle.nfs_history.specs.Standing.{MayFollow}
use Rattle.nfs_tap.specs.Noting.{IsRefusal}
use Rattle.nfs_tap.specs.Room.{HasRoom}
use Rattle.capture_history.specs.declared.found.FoundKind.{FoundKind}
use Rattle.capture_history.specs.declared.found.FoundKind.TheVariants as kinds
use Rattle.capture_history.specs.declared.found.Found.{Found}
use Rattle.capture_history.specs.declared.notes.NoteKind.{NoteKind}
use Rattle.capture_history.specs.declared.notes.NoteKind.TheVariants as reasons
use Rattle.capture_history.specs.declared.notes.LaneNote.{LaneNote}
use Rattle.capture_history.specs.declared.connection.Connection.{Connection}
use Rattle.capture_history.specs.Lanes.{AreLanes}

abbrev pub event_as : FoundKind → ℕ → List ℕ → Event
event_as kinds.Call lane message = call lane message
event_as kinds.Reply lane message = reply lane message
event_as kinds.Close lane message = close lane

abbrev pub event_of : Found → Event
event_of f = event_as f.kind f.lane f.message.items

-- why an event is left out of a log
abbrev pub IsWhy : Recording → Found → NoteKind → Type 0
IsWhy log f (reasons.Refused fault) = IsRefusal log.events (event_of f) fault
IsWhy log f reasons.LogFull = ¬ HasRoom log (length f.message.items)
IsWhy log f kind = ⊥

-- the events that were noted of those that were found, in order, in a log that begins so, and what is told of those that were left out
pub data AreNoted (head : Head) : List Found → List Event → List LaneNote → Type 0 where
  none : AreNoted head [] [] []
  noted : {found : List Found} {events : List Event} {told : List LaneNote} (f : Found) → AreNoted head found events told → MayFollow events (event_of f) → AreNoted head (found ++ f ∷ []) (events ++ event_of f ∷ []) told
  left_out : {found : List Found} {told : List LaneNote} (log : Recording) (f : Found) (note : LaneNote) → log.head ≡ head → AreNoted head found log.events told → note.lane ≡ f.lane → IsWhy log f note.kind → AreNoted head (found ++ f ∷ []) log.events (told ++ note ∷ [])

-- the log of connections
pub record IsImport (root : List ℕ) (connections : List Connection) (log : Recording) (notes : List LaneNote) : Type 0 where
  pub found : List Found
  pub ends : List LaneNote
  pub lanes : AreLanes (length connections) connections found ends
  pub order : List Found
  pub shuffled : IsPermutation found order
  pub ordered : IsNonDecreasingBy (λ (f : Found). f.at) order
  pub left_out : List LaneNote
  pub noted : AreNoted log.head order log.events left_out
  pub told : notes ≡ ends ++ left_out
  pub head : log.head ≡ plain_head root
