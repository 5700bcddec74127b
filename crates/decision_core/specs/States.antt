-- Believed.
-- The states of a walk: each stands for points of plans, and may have forgotten of some calls whether they are placed there (a form
-- of this project's own).
use Rattle.std.specs.Prelude.{◌≡◌, ◌==◌, ◌||◌, ℕ, Bool, false, List, [], ◌∷◌, Option, Some, None, Contains}
use Rattle.std.specs.List.{AllByRecursion}
use Rattle.decision_core.specs.Decide.{MayStandFor}

-- the calls that may be forgotten, and this one
abbrev pub also : (ℕ → Bool) → ℕ → ℕ → Bool
also gone n m = gone m || (m == n)

-- all of these states come of this one
abbrev pub ComeOf : {Origin State : Type 0} → (State → Origin) → Option Origin → List State → Type 0
ComeOf origin of states = AllByRecursion (λ s. Some (origin s) ≡ of) states

-- what the first of these states comes of
abbrev pub first_origin : {Origin State : Type 0} → (State → Origin) → List State → Option Origin
first_origin origin [] = None
first_origin origin (s ∷ states) = Some (origin s)

module _ {Plan Point State : Type 0} (StandsFor : Plan → (ℕ → Bool) → Point → State → Type 0) where
  -- the second state stands for all that the first stands for
  abbrev pub Replaces : State → State → Type 0
  Replaces state other = (plan : Plan) (gone : ℕ → Bool) (point : Point) → StandsFor plan gone point state → StandsFor plan gone point other

  -- one of the states does so
  abbrev pub HasFor : List State → State → Type 0
  HasFor states state = (other : State) × Contains states other × Replaces state other

  -- one of the second states stands for all that each of the first stands for
  abbrev pub RenewsAll : List State → List State → Type 0
  RenewsAll states after = (state : State) → Contains states state → HasFor after state

  -- one of the states stands for the point
  abbrev pub Holds : Plan → (ℕ → Bool) → List State → Point → Type 0
  Holds plan gone states point = (state : State) × Contains states state × StandsFor plan gone point state

  -- the second state stands for what the first stands for, where the call may be forgotten
  abbrev pub Forgets : ℕ → State → State → Type 0
  Forgets n old new = (plan : Plan) (gone : ℕ → Bool) (point : Point) → StandsFor plan gone point old → StandsFor plan (also gone n) point new

  module _ (placed : Point → ℕ → Bool) where
    -- what the state tells of a call that it can't have forgotten
    abbrev pub TellsPlaced : State → ℕ → Bool → Type 0
    TellsPlaced state n answer = (plan : Plan) (gone : ℕ → Bool) (point : Point) → StandsFor plan gone point state → gone n ≡ false → answer ≡ placed point n

    module _ (Next : Plan → Point → ℕ → Point → Type 0) where
      -- the states stand for all points that placing the call may lead to, whichever plan and point the first state stands for
      abbrev pub HasStep : List State → ℕ → State → Type 0
      HasStep states n state = (plan : Plan) (gone : ℕ → Bool) (point after : Point) → StandsFor plan gone point state → gone n ≡ false → placed point n ≡ false
          → Next plan point n after → Holds plan gone states after

      -- so it is of each of these calls
      abbrev pub HasSteps : List State → List ℕ → State → Type 0
      HasSteps states calls state = AllByRecursion (λ n. HasStep states n state) calls

      -- for each point that the first state stands for the second one stands for one that may stand for it, where these calls aren't forgotten
      abbrev pub Settles : List ℕ → State → State → Type 0
      Settles calls state after = (plan : Plan) (gone : ℕ → Bool) (point : Point) → StandsFor plan gone point state → AllByRecursion (λ n. gone n ≡ false) calls
          → (other : Point) × StandsFor plan gone other after × MayStandFor placed (Next plan) point other
