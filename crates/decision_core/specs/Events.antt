-- Believed.
-- What a list of events tells of when calls began and ended, and what one event makes of a walk.
use Rattle.std.specs.Prelude.{◌≡◌, ◌≢◌, ◌⊎◌, ℕ, ◌+◌, ◌<◌, ◌≤◌, nat_le, Bool, false, IsTrue, List, [], ◌∷◌, ◌++◌, length, Some}
use Rattle.std.specs.Option.{option_map_or}
use Rattle.std.specs.List.{slice_index_or}
use Rattle.decision_core.specs.declared.deciding.Event.{Event}
use Rattle.decision_core.specs.declared.deciding.Event.TheVariants.{Called, Answered, AtOnce, Passed}
use Rattle.decision_core.specs.Times.{Times, IsAmong, IsUnanswered}
use Rattle.decision_core.specs.Layers.{ExtendsAll, ForgetsAll, SettlesAll}

-- this event is event `k + 1` of the list
abbrev pub StandsAt : List Event → ℕ → Event → Type 0
StandsAt events k event = (k < length events) × (slice_index_or events k event ≡ event)

-- the events are those of a history with these times, numbered from 1
pub record Tells (times : Times) (events : List Event) : Type 0 where
  pub begins : (n : ℕ) → IsTrue (times.is_call n) → (k : ℕ) × (times.begin_of n ≡ k + 1) × (StandsAt events k (Called n) ⊎ StandsAt events k (AtOnce n))
  pub ends : (n at : ℕ) → times.end_of n ≡ Some at → (k : ℕ) × (at ≡ k + 1) × (StandsAt events k (Answered n) ⊎ StandsAt events k (AtOnce n))
  pub unanswered : (k n : ℕ) → StandsAt events k (Called n) → IsUnanswered times (k + 1) n
  pub answers : (k n : ℕ) → StandsAt events k (Answered n) → times.end_of n ≡ Some (k + 1)
  pub at_once : (k n : ℕ) → StandsAt events k (AtOnce n) → times.end_of n ≡ Some (k + 1)

-- whether the call is answered by this event
abbrev pub answered_by : Times → ℕ → ℕ → Bool
answered_by times event n = option_map_or (λ at. nat_le at event) (times.end_of n) false

-- the list has each call that began by this event and has no reply by then, and no call that has one
pub record AreWaiting (times : Times) (event : ℕ) (waiting : List ℕ) : Type 0 where
  pub all : (m : ℕ) → IsTrue (times.is_call m) → times.begin_of m ≤ event → IsUnanswered times event m → IsAmong waiting m
  pub only : (m : ℕ) → IsAmong waiting m → IsUnanswered times event m

-- the call is put into the list unless it is n
pub record IsAdded (call n : ℕ) (old new : List ℕ) : Type 0 where
  pub keeps : (m : ℕ) → IsAmong old m → IsAmong new m
  pub adds : call ≢ n → IsAmong new call
  pub only : (m : ℕ) → IsAmong new m → IsAmong old m ⊎ ((m ≡ call) × (m ≢ n))

-- the second list has what the first has but for n
pub record IsWithout (n : ℕ) (waiting left : List ℕ) : Type 0 where
  pub keeps : (m : ℕ) → IsAmong waiting m → m ≢ n → IsAmong left m
  pub only : (m : ℕ) → IsAmong left m → IsAmong waiting m × (m ≢ n)

module _ {Plan Point State : Type 0} (StandsFor : Plan → (ℕ → Bool) → Point → State → Type 0) (placed : Point → ℕ → Bool) (Next : Plan → Point → ℕ → Point → Type 0) where
  -- what the answer of n makes of the open calls and of the states
  abbrev pub IsAnswerStep : ℕ → List ℕ → List ℕ → List State → List State → Type 0
  IsAnswerStep n waiting left before after =
      IsWithout n waiting left × ((middle : List State) × ExtendsAll StandsFor placed Next (left ++ n ∷ []) n before middle × ForgetsAll StandsFor placed Next n middle after)

  -- what an event makes of them
  abbrev pub IsEventStep : Event → List ℕ → List ℕ → List State → List State → Type 0
  IsEventStep (Called n) waiting left before after = SettlesAll StandsFor placed Next (n ∷ []) before after × (left ≡ waiting ++ n ∷ [])
  IsEventStep (Answered n) waiting left before after = IsAnswerStep n waiting left before after
  IsEventStep (AtOnce n) waiting left before after = IsAnswerStep n waiting left before after
  IsEventStep Passed waiting left before after = (after ≡ before) × (left ≡ waiting)

-- the call that is answered at this event, if any
abbrev pub IsAnswer : Event → ℕ → Type 0
IsAnswer (Called m) n = ⊥
IsAnswer (Answered m) n = m ≡ n
IsAnswer (AtOnce m) n = m ≡ n
IsAnswer Passed n = ⊥

-- behind this event, where it is an answer, there is a state
abbrev pub HasStateBehind : {State : Type 0} → Event → List State → Type 0
HasStateBehind (Called n) states = Unit {0}
HasStateBehind (Answered n) states = 0 < length states
HasStateBehind (AtOnce n) states = 0 < length states
HasStateBehind Passed states = Unit {0}
