-- Believed.
-- Events out of when each call begins and is answered.
use Rattle.std.specs.Prelude.{◌≡◌, ◌≢◌, ◌⊎◌, ℕ, ◌+◌, ◌<◌, ◌≤◌, IsTrue, List, length, Option, Some, Contains}
use Rattle.std.specs.List.{AllByRecursion, slice_index_or, slice_set}
use Rattle.decision_core.specs.declared.deciding.Event.{Event}
use Rattle.decision_core.specs.declared.deciding.Event.TheVariants.{Called, Answered, AtOnce, Passed}
use Rattle.decision_core.specs.declared.spans.Span.{Span}
use Rattle.decision_core.specs.Times.{Times}
use Rattle.decision_core.specs.Events.{StandsAt}

-- the event is put to this place, from 1, where none stood
pub record IsPut (at : ℕ) (event : Event) (old new : List Event) : Type 0 where
  pub index : ℕ
  pub is_at : at ≡ index + 1
  pub inside : index < length old
  pub was_free : slice_index_or old index Passed ≡ Passed
  pub is_set : new ≡ slice_set old index event

-- where a call begins, and where it is answered
abbrev pub BeginsThere : ℕ → ℕ → List Event → Type 0
BeginsThere number begin events = (k : ℕ) × (begin ≡ k + 1) × (StandsAt events k (Called number) ⊎ StandsAt events k (AtOnce number))

abbrev pub EndsThere : ℕ → Option ℕ → List Event → Type 0
EndsThere number end_at events = (at : ℕ) → end_at ≡ Some at → (k : ℕ) × (at ≡ k + 1) × (StandsAt events k (Answered number) ⊎ StandsAt events k (AtOnce number))

-- event `k + 1` is one of the call
abbrev pub IsOfSpan : ℕ → ℕ → Option ℕ → ℕ → Event → Type 0
IsOfSpan number begin end_at k event = ((event ≡ Called number) × (begin ≡ k + 1) × (end_at ≢ Some begin))
    ⊎ (((event ≡ Answered number) × (end_at ≡ Some (k + 1))) ⊎ ((event ≡ AtOnce number) × (end_at ≡ Some (k + 1))))

-- the events of one more call stand there, and all that stood
pub record AddsSpan (number begin : ℕ) (end_at : Option ℕ) (old new : List Event) : Type 0 where
  pub keeps : (k : ℕ) (event : Event) → event ≢ Passed → StandsAt old k event → StandsAt new k event
  pub begins : BeginsThere number begin new
  pub ends : EndsThere number end_at new
  pub only : (k : ℕ) (event : Event) → StandsAt new k event → StandsAt old k event ⊎ IsOfSpan number begin end_at k event

-- these are the calls of a history with these times
pub record AreSpansOf (times : Times) (spans : List Span) : Type 0 where
  pub listed : (n : ℕ) → IsTrue (times.is_call n) → (span : Span) × Contains spans span × (span.number ≡ n) × (times.begin_of n ≡ span.begin) × (times.end_of n ≡ span.«end»)
  pub only : (span : Span) → Contains spans span → (times.begin_of span.number ≡ span.begin) × (times.end_of span.number ≡ span.«end»)
  pub known : (n at : ℕ) → times.end_of n ≡ Some at → IsTrue (times.is_call n)
  pub late : (n at : ℕ) → times.end_of n ≡ Some at → times.begin_of n ≤ at

-- ---- what the loop over calls says to the prover

pub record AreTold (spans : List Span) (events : List Event) : Type 0 where
  pub told : AllByRecursion (λ span. BeginsThere span.number span.begin events × EndsThere span.number span.«end» events) spans
  pub only : (k : ℕ) (event : Event) → StandsAt events k event → (event ≡ Passed) ⊎ ((span : Span) × Contains spans span × IsOfSpan span.number span.begin span.«end» k event)
