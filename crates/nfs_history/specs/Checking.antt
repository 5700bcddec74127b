-- For the prover, and for callers.
-- What the program knows of the events that it has checked: what the code's private functions say to the prover.
use Rattle.std.specs.Prelude.{◌≡◌, ◌==◌, ◌&&◌, ◌||◌, not, ◌≤◌, ◌<◌, ℕ, ◌+◌, length, nat_eq, Bool, true, false, List, [], ◌∷◌, ◌++◌, Option, Some, None, is_some, if◌then◌else◌}
use Rattle.std.specs.List.{list_any}
use Rattle.std.specs.HashMap.{get}
use Rattle.history_file.specs.Event.{Event}
use Rattle.history_file.specs.Event.Event.{call, reply, close, crash}
use Rattle.nfs_history.specs.declared.fault.EventFault.{EventFault}
use Rattle.nfs_history.specs.declared.checking.LaneState.{LaneState}
use Rattle.nfs_history.specs.declared.checking.LaneState.TheVariants as states
use Rattle.nfs_history.specs.declared.checking.LaneUse.{LaneUse}
use Rattle.nfs_history.specs.declared.checking.LaneUse.TheVariants as uses
use Rattle.nfs_history.specs.declared.checking.OpenCalls.{OpenCalls}
use Rattle.nfs_history.specs.Calls.{CallEvent, calls_of, eras_from}
use Rattle.nfs_history.specs.Matching.{same_key}
use Rattle.nfs_history.specs.Standing.{is_unanswered, has_unanswered, MayFollow, EachMayFollow}
use Rattle.nfs_history.specs.EventFaults.{IsAtFault}

-- the events of a lane, the closes of it, and the crashes, each as a test
abbrev pub is_on : ℕ → Event → Bool
is_on lane (call on message) = on == lane
is_on lane (reply on message) = on == lane
is_on lane (close on) = on == lane
is_on lane crash = false

abbrev pub is_close_of : ℕ → Event → Bool
is_close_of lane (close on) = on == lane
is_close_of lane (call on message) = false
is_close_of lane (reply on message) = false
is_close_of lane crash = false

abbrev pub is_crash : Event → Bool
is_crash crash = true
is_crash (call on message) = false
is_crash (reply on message) = false
is_crash (close on) = false

-- whether a crash stands behind an event of the lane
abbrev pub was_cut_off : ℕ → List Event → Bool
was_cut_off lane [] = false
was_cut_off lane (e ∷ events) = (is_on lane e && list_any is_crash events) || was_cut_off lane events

-- whether the lane is closed
abbrev pub was_closed : ℕ → List Event → Bool
was_closed lane events = list_any (is_close_of lane) events || was_cut_off lane events

-- whether a lane that was last used so is closed in an era
abbrev pub is_shut : ℕ → Option LaneUse → Bool
is_shut era None = false
is_shut era (Some (uses.Closed last)) = true
is_shut era (Some (uses.InEra last)) = not (last == era)

-- whether a lane is closed, as the program knows it
abbrev pub is_known_closed : OpenCalls → ℕ → Bool
is_known_closed known lane = is_shut known.era (get nat_eq known.lanes lane)

-- how a lane that was last used so stands in an era
abbrev pub state_in : ℕ → Option LaneUse → LaneState
state_in era None = states.Open
state_in era (Some (uses.Closed last)) = if last == era then states.Closed else states.EraOver
state_in era (Some (uses.InEra last)) = if last == era then states.Open else states.EraOver

abbrev pub known_state : OpenCalls → ℕ → LaneState
known_state known lane = state_in known.era (get nat_eq known.lanes lane)

-- whether an era ended since a lane was last used so
abbrev pub is_over : ℕ → Option LaneUse → Bool
is_over era None = false
is_over era (Some (uses.Closed last)) = not (last == era)
is_over era (Some (uses.InEra last)) = not (last == era)

abbrev pub last_era : LaneUse → ℕ
last_era (uses.Closed last) = last
last_era (uses.InEra last) = last

-- whether this is the place
abbrev pub is_place : ℕ → Option ℕ → Bool
is_place k None = false
is_place k (Some place) = k == place

-- of calls that stand from place k on, the one at this place is unanswered on the lane with the transaction number, and no other
abbrev pub AnswersWait : ℕ → ℕ → Option ℕ → ℕ → List CallEvent → Type 0
AnswersWait lane xid place k [] = Unit {0}
AnswersWait lane xid place k (c ∷ calls) = (is_unanswered lane xid c ≡ is_place k place) × AnswersWait lane xid place (k + 1) calls

-- it knows the calls that are unanswered, where they stand, how many calls there are, the lanes that are closed, and the era
pub record Knows (known : OpenCalls) (before : List Event) : Type 0 where
  pub unanswered : (lane xid : ℕ) → is_some (get same_key known.unanswered (lane, xid)) ≡ has_unanswered lane xid before
  pub places : (lane xid : ℕ) → AnswersWait lane xid (get same_key known.unanswered (lane, xid)) 0 (calls_of before)
  pub within : (lane xid place : ℕ) → get same_key known.unanswered (lane, xid) ≡ Some place → place < known.calls
  pub calls : known.calls ≡ length (calls_of before)
  pub closed : (lane : ℕ) → is_known_closed known lane ≡ was_closed lane before
  pub used : (lane : ℕ) → is_some (get nat_eq known.lanes lane) ≡ list_any (is_on lane) before
  pub cut_off : (lane : ℕ) → is_over known.era (get nat_eq known.lanes lane) ≡ was_cut_off lane before
  pub in_order : (lane : ℕ) (used : LaneUse) → get nat_eq known.lanes lane ≡ Some used → last_era used ≤ known.era
  pub era : known.era ≡ eras_from 1 before

-- the fault of event i, or none where it may follow
abbrev pub IsFaultOf : ℕ → List Event → Event → Option EventFault → Type 0
IsFaultOf i before e (Some fault) = IsAtFault i before e fault
IsFaultOf i before e None = MayFollow before e

-- the fault of event i, or none, behind any events of which this is known
abbrev pub IsFaultBehind : OpenCalls → ℕ → Event → Option EventFault → Type 0
IsFaultBehind known i e fault = (before : List Event) → Knows known before → IsFaultOf i before e fault

-- behind an event that may follow, the one is known where the other was known before it
abbrev pub KnowsOneMore : OpenCalls → OpenCalls → Event → Type 0
KnowsOneMore old new e = (before : List Event) → Knows old before → MayFollow before e → Knows new (before ++ e ∷ [])

-- where a growth was refused, the one is known where the other was
abbrev pub KnowsAsMuch : OpenCalls → OpenCalls → Type 0
KnowsAsMuch old new = (before : List Event) → Knows old before → Knows new before

-- the events may follow one another, and this is known of them
abbrev pub AreKnownToFollow : List Event → OpenCalls → Type 0
AreKnownToFollow events known = EachMayFollow [] events × Knows known events
