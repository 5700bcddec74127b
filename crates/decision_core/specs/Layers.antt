-- For the prover.
-- What the parts of a step of the walk do to its states.
use Rattle.std.specs.Prelude.{◌≡◌, ◌≢◌, ◌⊎◌, ℕ, ◌+◌, Bool, true, false, List, Contains}
use Rattle.std.specs.List.{AllByRecursion}
use Rattle.decision_core.specs.Times.{Times, IsAmong, IsOpen, IsAnswerOf}
use Rattle.decision_core.specs.Decide.{IsCompletion, MayStandFor}
use Rattle.decision_core.specs.States.{Holds, Settles, also}

-- the second list has all that the first has
abbrev pub Grows : {State : Type 0} → List State → List State → Type 0
Grows {State} old new = (s : State) → Contains old s → Contains new s

-- of none of these calls it may be forgotten whether it is placed
abbrev pub AreKept : (ℕ → Bool) → List ℕ → Type 0
AreKept gone calls = AllByRecursion (λ m. gone m ≡ false) calls

-- event `event + 1` is the answer of n alone, these are all calls that are open then, and n, and none of them may be forgotten
pub record IsAnswering (times : Times) (gone : ℕ → Bool) (event n : ℕ) (calls : List ℕ) : Type 0 where
  pub answer : IsAnswerOf times (event + 1) n
  pub there : IsAmong calls n
  pub all : (m : ℕ) → IsOpen times event m → m ≢ n → IsAmong calls m
  pub kept : AreKept gone calls

module _ {Plan Point State : Type 0} (StandsFor : Plan → (ℕ → Bool) → Point → State → Type 0) (placed : Point → ℕ → Bool) (Next : Plan → Point → ℕ → Point → Type 0) where
  -- what the state stands for is in the first list where n is placed, else in the second
  abbrev pub IsSortedInto : ℕ → List State → List State → State → Type 0
  IsSortedInto n with_n without state = (plan : Plan) (gone : ℕ → Bool) (point : Point) → StandsFor plan gone point state → gone n ≡ false
      → (placed point n ≡ true → Holds StandsFor plan gone with_n point) × (placed point n ≡ false → Holds StandsFor plan gone without point)

  -- the same of each of these
  abbrev pub IsSortedOut : ℕ → List State → List State → List State → Type 0
  IsSortedOut n states with_n without = (state : State) → Contains states state → IsSortedInto n with_n without state

  -- a point that may stand for this one is in the first list where n is placed in it, else in the second
  abbrev pub HasEither : Plan → (ℕ → Bool) → ℕ → List State → List State → Point → Type 0
  HasEither plan gone n with_n without point = (other : Point) × MayStandFor placed (Next plan) point other
      × (((placed other n ≡ true) × Holds StandsFor plan gone with_n other) ⊎ ((placed other n ≡ false) × Holds StandsFor plan gone without other))

  -- so it is of each point that the state stands for, where n and these calls aren't forgotten
  abbrev pub IsPutInto : List ℕ → ℕ → List State → List State → State → Type 0
  IsPutInto calls n with_n without state = (plan : Plan) (gone : ℕ → Bool) (point : Point) → StandsFor plan gone point state → AreKept gone calls → gone n ≡ false
      → HasEither plan gone n with_n without point

  -- so it is of each point that placing call x may lead to from one that the state stands for
  abbrev pub HasPlacing : List ℕ → ℕ → List State → List State → State → ℕ → Type 0
  HasPlacing calls n with_n without state x = (plan : Plan) (gone : ℕ → Bool) (point after : Point) → StandsFor plan gone point state → AreKept gone calls → gone n ≡ false
      → gone x ≡ false → placed point x ≡ false → Next plan point x after → HasEither plan gone n with_n without after

  -- the same of each of these calls
  abbrev pub HasPlacings : List ℕ → ℕ → List State → List State → List ℕ → State → Type 0
  HasPlacings calls n with_n without each state = AllByRecursion (HasPlacing calls n with_n without state) each

  -- and in each of these states
  abbrev pub HasAllPlacings : List ℕ → ℕ → List State → List State → List State → Type 0
  HasAllPlacings calls n with_n without each = AllByRecursion (HasPlacings calls n with_n without calls) each

  module _ (plan : Plan) (gone : ℕ → Bool) (times : Times) where
    -- after this event a point that one of the states stands for has a completion
    abbrev pub Completes : ℕ → List State → Type 0
    Completes event states = (point : Point) × Holds StandsFor plan gone states point × ((o : List ℕ) × IsCompletion placed (Next plan) times event point o)

    -- so it is of one in which n isn't placed
    abbrev pub Awaits : ℕ → ℕ → List State → Type 0
    Awaits event n states = (point : Point) × Holds StandsFor plan gone states point × (placed point n ≡ false) × ((o : List ℕ) × IsCompletion placed (Next plan) times event point o)

  -- at the answer of n: where one of the first states completes a plan one of the second does, or one of the layer awaits n
  abbrev pub CompletesOrAwaits : List ℕ → ℕ → List State → List State → List State → Type 0
  CompletesOrAwaits calls n before layer states = (plan : Plan) (gone : ℕ → Bool) (times : Times) (event : ℕ) → IsAnswering times gone event n calls
      → Completes plan gone times event before → Completes plan gone times (event + 1) states ⊎ Awaits plan gone times event n layer

  -- at the answer of n: where one of the first states completes a plan one of the second does
  abbrev pub ExtendsAll : List ℕ → ℕ → List State → List State → Type 0
  ExtendsAll calls n before after = (plan : Plan) (gone : ℕ → Bool) (times : Times) (event : ℕ) → IsAnswering times gone event n calls
      → Completes plan gone times event before → Completes plan gone times (event + 1) after

  -- the second states stand for what the first do, where n may be forgotten
  abbrev pub ForgetsAll : ℕ → List State → List State → Type 0
  ForgetsAll n before after = (plan : Plan) (gone : ℕ → Bool) (point : Point) → Holds StandsFor plan gone before point → Holds StandsFor plan (also gone n) after point

  -- one of the second states settles each of the first
  abbrev pub SettlesAll : List ℕ → List State → List State → Type 0
  SettlesAll calls before after = (state : State) → Contains before state → (other : State) × Contains after other × Settles StandsFor placed Next calls state other
