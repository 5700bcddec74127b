-- For the prover, and for callers.
-- The events of a server's connections. Each connection is a lane, and its events are the messages that its two ways say, as calls and as
-- replies, each at a packet, and its close. A lane that ends early has those alone that stand no later than where it ends.
use Rattle.std.specs.Prelude.{◌≡◌, ◌+◌, ℕ, Bool, true, nat_le, List, [], ◌∷◌, ◌++◌, Option, Some, None}
use Rattle.std.specs.List.{filter}
use Rattle.std.specs.Option.{option_or}
use Rattle.capture_history.specs.declared.found.FoundKind.{FoundKind}
use Rattle.capture_history.specs.declared.found.FoundKind.TheVariants as kinds
use Rattle.capture_history.specs.declared.found.Found.{Found}
use Rattle.capture_history.specs.declared.lane.LaneEnd.{LaneEnd}
use Rattle.capture_history.specs.declared.notes.LaneNote.{LaneNote}
use Rattle.capture_history.specs.declared.direction.Direction.{Direction}
use Rattle.capture_history.specs.declared.connection.Connection.{Connection}
use Rattle.capture_history.specs.Streams.{AreMessages}

-- a message as an event of a lane
abbrev pub IsEvent : ℕ → FoundKind → List ℕ → Found → Type 0
IsEvent lane kind message f = (f.lane ≡ lane) × (f.kind ≡ kind) × (f.message.items ≡ message)

-- messages, each as an event, in order
abbrev pub AreMade : ℕ → FoundKind → List (List ℕ) → List Found → Type 0
AreMade lane kind [] [] = Unit {0}
AreMade lane kind [] (f ∷ fs) = ⊥
AreMade lane kind (m ∷ ms) [] = ⊥
AreMade lane kind (m ∷ ms) (f ∷ fs) = IsEvent lane kind m f × AreMade lane kind ms fs

-- the messages of one way, each as an event
pub record AreEvents (lane : ℕ) (kind : FoundKind) (way : Direction) (found : List Found) : Type 0 where
  pub messages : List (List ℕ)
  pub are : AreMessages way messages
  pub made : AreMade lane kind messages found

-- the packet at which a lane ends early
abbrev pub place_of_end : Option LaneEnd → Option ℕ
place_of_end None = None
place_of_end (Some end) = Some end.at

abbrev pub is_in_time : Option ℕ → ℕ → Bool
is_in_time None at = true
is_in_time (Some last) at = nat_le at last

-- those of some events that stand no later than where their lane ends
abbrev pub in_time : Option ℕ → List Found → List Found
in_time last events = filter (λ (f : Found). is_in_time last f.at) events

-- the lane's close stands behind its events, if it ended
abbrev pub IsClosed : ℕ → Option ℕ → List Found → List Found → Type 0
IsClosed lane None before after = after ≡ before
IsClosed lane (Some at) before after = (f : Found) × IsEvent lane kinds.Close [] f × (after ≡ before ++ f ∷ [])

-- the events of a lane behind those of others
pub record IsLane (lane : ℕ) (connection : Connection) (last : Option ℕ) (before after : List Found) : Type 0 where
  pub calls : List Found
  pub are_calls : AreEvents lane kinds.Call connection.calls calls
  pub replies : List Found
  pub are_replies : AreEvents lane kinds.Reply connection.replies replies
  pub closed : IsClosed lane (option_or last connection.closed) (before ++ (in_time last calls ++ in_time last replies)) after

-- a lane that ends early is told of
abbrev pub IsEndTold : ℕ → Option ℕ → List LaneNote → List LaneNote → Type 0
IsEndTold lane None before after = after ≡ before
IsEndTold lane (Some last) before after = (note : LaneNote) × (note.lane ≡ lane) × (after ≡ before ++ note ∷ [])

-- the events of connections, whose lanes are numbered from 1, and what is told of lanes that end early
pub data AreLanes : ℕ → List Connection → List Found → List LaneNote → Type 0 where
  none : AreLanes 0 [] [] []
  more : {n : ℕ} {connections : List Connection} {found : List Found} {told : List LaneNote} (connection : Connection) (last : Option ℕ) (found' : List Found) (told' : List LaneNote) → AreLanes n connections found told → IsLane (n + 1) connection last found found' → IsEndTold (n + 1) last told told' → AreLanes (n + 1) (connections ++ connection ∷ []) found' told'
