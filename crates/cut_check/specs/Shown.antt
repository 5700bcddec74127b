-- For the prover.
-- What the program knows of the verifiers that places and later eras show (a form of this project's own).
use Rattle.std.specs.Prelude.{◌≡◌, ◌⊎◌, ℕ, ◌<◌, true, IsTrue, List, [], ◌∷◌, ◌++◌, Option, Some, None}
use Rattle.std.specs.Ordering.{nat_cmp}
use Rattle.std.specs.BTreeSet.{BTreeSet, contains}
use Rattle.nfs_history.specs.declared.recorded.RecordedCall.{RecordedCall}
use Rattle.certificate.specs.declared.plan.Place.{Place}
use Rattle.certificate.specs.declared.plan.EraPlan.{EraPlan}
use Rattle.cut_check.specs.declared.verifier.Shown.{Shown}
use Rattle.cut_check.specs.declared.verifier.Shown.TheVariants as shown
use Rattle.cut_check.specs.Verifier.{verifier_at, Shows, ShowsTwo, loses_write}
use Rattle.cut_check.specs.VerifierFault.{ShowsLater, IsAtFault}

-- what places show: none, one verifier, or two at least
abbrev pub IsShown : List RecordedCall → List Place → Shown → Type 0
IsShown calls places shown.Nothing = (verifier : ℕ) → ¬ Shows calls places verifier
IsShown calls places (shown.One one) = Shows calls places one × ((verifier : ℕ) → Shows calls places verifier → verifier ≡ one)
IsShown calls places shown.Several = ShowsTwo calls places

-- what places show, once one more stands behind them that shows this
abbrev pub IsShownWith : Shown → Option ℕ → Shown → Type 0
IsShownWith so_far seen now =
    (calls : List RecordedCall) (places : List Place) (place : Place) → verifier_at calls place ≡ seen → IsShown calls places so_far → IsShown calls (places ++ place ∷ []) now

-- the set has what one place shows beside what it had
pub record AddsSeen (seen : Option ℕ) (old new : BTreeSet ℕ) : Type 0 where
  pub kept : (verifier : ℕ) → contains nat_cmp old verifier ≡ true → contains nat_cmp new verifier ≡ true
  pub added : (verifier : ℕ) → seen ≡ Some verifier → contains nat_cmp new verifier ≡ true
  pub only : (verifier : ℕ) → contains nat_cmp new verifier ≡ true → (contains nat_cmp old verifier ≡ true) ⊎ (seen ≡ Some verifier)

-- the set has what these places show beside what it had
pub record AddsShown (calls : List RecordedCall) (places : List Place) (old new : BTreeSet ℕ) : Type 0 where
  pub kept : (verifier : ℕ) → contains nat_cmp old verifier ≡ true → contains nat_cmp new verifier ≡ true
  pub added : (verifier : ℕ) → Shows calls places verifier → contains nat_cmp new verifier ≡ true
  pub only : (verifier : ℕ) → contains nat_cmp new verifier ≡ true → (contains nat_cmp old verifier ≡ true) ⊎ Shows calls places verifier

-- the set has what the eras behind era e show
pub record HasLater (calls : List RecordedCall) (eras : List EraPlan) (e : ℕ) (set : BTreeSet ℕ) : Type 0 where
  pub all : (verifier : ℕ) → ShowsLater calls eras e verifier → contains nat_cmp set verifier ≡ true
  pub only : (verifier : ℕ) → contains nat_cmp set verifier ≡ true → ShowsLater calls eras e verifier

-- an era is at fault, where the set has what later ones show
abbrev pub IsAtFaultWith : List RecordedCall → EraPlan → BTreeSet ℕ → Type 0
IsAtFaultWith calls era set =
    ShowsTwo calls era.places ⊎ (IsTrue (loses_write calls era) × ((verifier : ℕ) × Shows calls era.places verifier × (contains nat_cmp set verifier ≡ true)))

-- of the eras behind era e the first at fault, if any is
abbrev pub IsFirstBehind : List RecordedCall → List EraPlan → ℕ → Option ℕ → Type 0
IsFirstBehind calls eras e None = (f : ℕ) → e < f → ¬ IsAtFault calls eras f
IsFirstBehind calls eras e (Some fault) = (e < fault) × IsAtFault calls eras fault × ((f : ℕ) → e < f → f < fault → ¬ IsAtFault calls eras f)
