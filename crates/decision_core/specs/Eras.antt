-- Believed.
-- Eras with cuts as one order: the crash of an era is a call that is sent and answered at the crash, and the cut is decided at
-- the first place that is lost, as one more way in which that call may change the state. Then the walk over the one order is the
-- walk over the eras.
use Rattle.std.specs.Prelude.{◌≡◌, ◌⊎◌, ◌==◌, ℕ, ◌+◌, ◌≤◌, Bool, false, IsTrue, List, [], ◌∷◌, ◌++◌, length, Option, Some, None, unwrap_or}
use Rattle.std.specs.List.{AllByRecursion, list_any}
use Rattle.decision_core.specs.Times.{Times, RespectsOrder, IsAmong, IsOnce}
use Rattle.decision_core.specs.Decide.{Leads}

-- the places of an era: those ahead of its cut, and those that its crash takes away
pub record PlanEra : Type 0 where
  pub kept : List ℕ
  pub lost : List ℕ

-- which numbers stand for calls and not for crashes, which for calls that no crash may take away, in which era each is, the
-- number of each era's crash, and which call keeps a call from being lost that stands ahead of it
pub record Numbering : Type 0 where
  pub is_real : ℕ → Bool
  pub is_stable : ℕ → Bool
  pub era_of : ℕ → ℕ
  pub crash : ℕ → ℕ
  pub saves : ℕ → ℕ → Bool

-- so many eras are numbered from 1
abbrev pub IsEra : ℕ → ℕ → Type 0
IsEra count e = (1 ≤ e) × (e ≤ count)

-- the times of such numbers, where each era begins at its event: an era's crash is at the beginning of the next
pub record IsNumbering (times : Times) (by : Numbering) (count : ℕ) (start : ℕ → ℕ) : Type 0 where
  pub begins_late : (n : ℕ) → IsTrue (times.is_call n) → start (by.era_of n) ≤ times.begin_of n
  pub begins_early : (n : ℕ) → IsTrue (times.is_call n) → times.begin_of n ≤ start (by.era_of n + 1)
  pub ends_late : (n at : ℕ) → IsTrue (times.is_call n) → times.end_of n ≡ Some at → times.begin_of n ≤ at
  pub rises : (e f : ℕ) → e ≤ f → start e ≤ start f
  pub crash_call : (e : ℕ) → IsEra count e → IsTrue (times.is_call (by.crash e)) × (by.era_of (by.crash e) ≡ e) × (by.is_real (by.crash e) ≡ false)
  pub crash_ends : (e : ℕ) → IsEra count e → times.end_of (by.crash e) ≡ Some (start (e + 1))

-- an era with its crash
abbrev pub part_of : Numbering → ℕ → PlanEra → List ℕ
part_of by e era = (era.kept ++ era.lost) ++ by.crash e ∷ []

-- eras, the first of which has this number, as one order
abbrev pub order_of : Numbering → ℕ → List PlanEra → List ℕ
order_of by e [] = []
order_of by e (era ∷ eras) = part_of by e era ++ order_of by (e + 1) eras

-- none of these lost calls is kept by one behind it
abbrev pub NoneSaved : Numbering → List ℕ → Type 0
NoneSaved by [] = Unit {0}
NoneSaved by (n ∷ lost) = AllByRecursion (λ later. ¬ IsTrue (by.saves n later)) lost × NoneSaved by lost

-- the places of an era: calls of the era, none twice, in an order that respects real time, each stable one is kept, and no lost one is
-- saved
pub record EraShape (times : Times) (by : Numbering) (e : ℕ) (era : PlanEra) : Type 0 where
  pub calls : AllByRecursion (λ n. IsTrue (times.is_call n) × (by.era_of n ≡ e) × IsTrue (by.is_real n)) (era.kept ++ era.lost)
  pub once : IsOnce (era.kept ++ era.lost)
  pub respects : RespectsOrder times (era.kept ++ era.lost)
  pub stable : (n : ℕ) → IsTrue (by.is_stable n) → by.era_of n ≡ e → IsAmong era.kept n
  pub unsaved : NoneSaved by era.lost

abbrev pub PlanShape : Times → Numbering → ℕ → List PlanEra → Type 0
PlanShape times by e [] = Unit {0}
PlanShape times by e (era ∷ eras) = EraShape times by e era × PlanShape times by (e + 1) eras

-- nothing is told of placed calls in a tree
abbrev pub untold : {Tree : Type 0} → Tree → ℕ → Bool
untold tree n = false

-- a point of a walk over eras: the tree, the tree at the era's cut once a place is lost, what is lost then, the era, and what is placed
pub record EraState (Tree : Type 0) : Type 0 where
  pub tree : Tree
  pub base : Option Tree
  pub lost : List ℕ
  pub era : ℕ
  pub calls : List ℕ

abbrev pub is_placed : {Tree : Type 0} → EraState Tree → ℕ → Bool
is_placed state n = list_any (λ m. m == n) state.calls

-- where the first era begins
abbrev pub first_of : {Tree : Type 0} → Tree → EraState Tree
first_of tree = record { tree = tree; base = None; lost = []; era = 1; calls = [] }

-- all stable calls of the era are placed
abbrev pub HasStable : {Tree : Type 0} → Numbering → EraState Tree → Type 0
HasStable by state = (m : ℕ) → IsTrue (by.is_stable m) → by.era_of m ≡ state.era → IsAmong state.calls m

module _ {Tree : Type 0} (Change : Tree → ℕ → Tree → Type 0) where
  -- each era runs, from the tree that the kept places of the eras ahead of it lead to
  abbrev pub PlanRuns : Tree → List PlanEra → Type 0
  PlanRuns tree [] = Unit {0}
  PlanRuns tree (era ∷ eras) = (base : Tree) × (last : Tree) × Leads untold Change tree era.kept base × Leads untold Change base era.lost last × PlanRuns base eras

  -- a call changes the tree: ahead of the cut; as the first that is lost, where all stable ones are placed; or behind it, where it saves
  -- none that is lost
  abbrev pub IsAheadOfCut : EraState Tree → ℕ → Tree → EraState Tree → Type 0
  IsAheadOfCut state n tree after = (state.base ≡ None) × (after ≡ record { tree = tree; base = None; lost = []; era = state.era; calls = n ∷ state.calls })

  abbrev pub IsFirstLost : Numbering → EraState Tree → ℕ → Tree → EraState Tree → Type 0
  IsFirstLost by state n tree after = (state.base ≡ None) × ¬ IsTrue (by.is_stable n) × HasStable by state
      × (after ≡ record { tree = tree; base = Some state.tree; lost = n ∷ []; era = state.era; calls = n ∷ state.calls })

  abbrev pub IsBehindCut : Numbering → EraState Tree → ℕ → Tree → EraState Tree → Type 0
  IsBehindCut by state n tree after = (base : Tree) × (state.base ≡ Some base) × AllByRecursion (λ m. ¬ IsTrue (by.saves m n)) state.lost
      × (after ≡ record { tree = tree; base = Some base; lost = n ∷ state.lost; era = state.era; calls = n ∷ state.calls })

  -- the era's crash goes back to the tree ahead of the first lost
  abbrev pub IsCrash : Numbering → EraState Tree → ℕ → EraState Tree → Type 0
  IsCrash by state n after = (n ≡ by.crash state.era) × (after ≡ record { tree = unwrap_or state.base state.tree; base = None; lost = []; era = state.era + 1; calls = n ∷ state.calls })

  -- a call of the era changes the tree, or the era's crash comes
  abbrev pub EraNext : Numbering → EraState Tree → ℕ → EraState Tree → Type 0
  EraNext by state n after =
      (IsTrue (by.is_real n) × (by.era_of n ≡ state.era)
      × ((tree : Tree) × Change state.tree n tree × (IsAheadOfCut state n tree after ⊎ (IsFirstLost by state n tree after ⊎ IsBehindCut by state n tree after))))
      ⊎ IsCrash by state n after

  -- a plan of eras is a witness: it has the history's shape, its eras run, and each answered call has its place (a crash has by its era)
  pub record IsEraWitness (times : Times) (by : Numbering) (count : ℕ) (opening : Tree) (eras : List PlanEra) : Type 0 where
    pub as_many_eras : length eras ≡ count
    pub shape : PlanShape times by 1 eras
    pub runs : PlanRuns opening eras
    pub complete : (n at : ℕ) → times.end_of n ≡ Some at → IsAmong (order_of by 1 eras) n
