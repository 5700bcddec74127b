-- Believed.
-- What a walk over the events of a history keeps, so that where it has nothing left there is no witness (Herlihy and Wing 1990,
-- section 2.2, for what a serial order has to keep to; the walk is this project's own). A point is what the calls that a plan has
-- placed so far have led to.
use Rattle.std.specs.Prelude.{◌≡◌, ◌≢◌, ◌⊎◌, ℕ, ◌<◌, Bool, true, false, IsTrue, List, [], ◌∷◌, Some}
use Rattle.std.specs.List.{AllByRecursion}
use Rattle.decision_core.specs.Times.{Times, RespectsOrder, IsAmong, IsOnce, IsUnanswered}

module _ {Point : Type 0} (placed : Point → ℕ → Bool) (Next : Point → ℕ → Point → Type 0) where
  -- from the first point, placing these calls one after the other may lead to the second
  abbrev pub Leads : Point → List ℕ → Point → Type 0
  Leads point [] last = point ≡ last
  Leads point (n ∷ order) last = (after : Point) × Next point n after × Leads after order last

  -- a placed call is told as placed from then on, and no other
  pub record IsTold : Type 0 where
    pub adds : (point after : Point) (n : ℕ) → Next point n after → placed after n ≡ true
    pub keeps : (point after : Point) (n m : ℕ) → Next point n after → m ≢ n → placed after m ≡ placed point m

  module _ (times : Times) (opening : Point) where
    -- a serial order of the history that has all answered calls, respects real time and runs
    pub record IsWitness (order : List ℕ) : Type 0 where
      pub calls : AllByRecursion (λ n. IsTrue (times.is_call n)) order
      pub once : IsOnce order
      pub respects : RespectsOrder times order
      pub complete : (n at : ℕ) → times.end_of n ≡ Some at → IsAmong order n
      pub last : Point
      pub runs : Leads opening order last

  module _ (times : Times) where
    -- after this event these calls, placed in this order behind the point, make up a witness
    pub record IsCompletion (event : ℕ) (point : Point) (order : List ℕ) : Type 0 where
      pub calls : AllByRecursion (λ n. IsTrue (times.is_call n)) order
      pub once : IsOnce order
      pub respects : RespectsOrder times order
      pub unplaced : AllByRecursion (λ n. placed point n ≡ false) order
      pub unanswered : AllByRecursion (IsUnanswered times event) order
      pub complete : (n at : ℕ) → times.end_of n ≡ Some at → event < at → (placed point n ≡ true) ⊎ IsAmong order n
      pub last : Point
      pub runs : Leads point order last

  -- the second point may stand for the first one, whatever happens after it: what is placed in the first is placed in the second, and
  -- where the first has a completion the second has one
  pub record MayStandFor (point other : Point) : Type 0 where
    pub keeps : (n : ℕ) → placed point n ≡ true → placed other n ≡ true
    pub serves : (times : Times) (event : ℕ) (order : List ℕ) → IsCompletion times event point order → (o : List ℕ) × IsCompletion times event other o

  -- ---- for the prover

  -- where there is a witness, one of the points that are held has a completion
  abbrev pub Covers : Times → Point → ℕ → (Point → Type 0) → Type 0
  Covers times opening event Held = (order : List ℕ) → IsWitness times opening order → (point : Point) × Held point × ((o : List ℕ) × IsCompletion times event point o)
