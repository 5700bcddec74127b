-- For the prover.
-- What the private functions say of a log, event by event.
use Rattle.std.specs.Prelude.{◌≡◌, ℕ, ◌⊎◌, List, [], ◌∷◌, ◌++◌, length, Option, Some, None}
use Rattle.std.specs.List.Sorted.{IsPermutation, IsNonDecreasingBy}
use Rattle.history_file.specs.Event.{Recording}
use Rattle.nfs_history.specs.Standing.{MayFollow}
use Rattle.nfs_tap.specs.Noting.{with_event}
use Rattle.capture_history.specs.declared.found.Found.{Found}
use Rattle.capture_history.specs.declared.notes.NoteKind.{NoteKind}
use Rattle.capture_history.specs.declared.notes.LaneNote.{LaneNote}
use Rattle.capture_history.specs.declared.connection.Connection.{Connection}
use Rattle.capture_history.specs.declared.import.Lanes.{Lanes}
use Rattle.capture_history.specs.Lanes.{IsLane, IsEndTold, AreLanes}
use Rattle.capture_history.specs.Imports.{event_of, IsWhy, AreNoted}

-- an event is noted, or left out for a reason
abbrev pub IsNext : Recording → Found → Option NoteKind → Recording → Type 0
IsNext log f None log' = MayFollow log.events (event_of f) × (log' ≡ with_event log (event_of f))
IsNext log f (Some why) log' = IsWhy log f why × (log' ≡ log)

-- an event is noted, or left out for a reason that is told
abbrev pub IsNoted : Recording → List LaneNote → Found → Recording → List LaneNote → Type 0
IsNoted log told f log' told' = (IsNext log f None log' × (told' ≡ told)) ⊎ (note : LaneNote) × (note.lane ≡ f.lane) × IsNext log f (Some note.kind) log' × (told' ≡ told ++ note ∷ [])

-- events noted behind others, in a log that was empty
abbrev pub AreInOrder : Recording → List LaneNote → List Found → Recording → List LaneNote → Type 0
AreInOrder log told found log' told' = (left_out : List LaneNote) × (told' ≡ told ++ left_out) × (log'.head ≡ log.head) × (log.events ≡ [] → AreNoted log'.head found log'.events left_out)

-- a lane's events behind others, and where it ends early
abbrev pub IsPut : ℕ → Connection → List Found → List LaneNote → List Found → List LaneNote → Type 0
IsPut lane connection found told found' told' = (last : Option ℕ) × IsLane lane connection last found found' × IsEndTold lane last told told'

abbrev pub AreFound : List Connection → Lanes → Type 0
AreFound connections lanes = AreLanes (length connections) connections lanes.found.items lanes.notes.items

-- the same events, in order
pub record IsSorted (old new : List Found) : Type 0 where
  pub shuffled : IsPermutation old new
  pub ordered : IsNonDecreasingBy (λ (f : Found). f.at) new
