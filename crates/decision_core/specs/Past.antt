-- For the prover.
-- Calls of eras that are over may count as placed, since none of them is placed any more (a form of this project's own).
use Rattle.std.specs.Prelude.{◌≡◌, ◌⊎◌, ℕ, ◌<◌, ◌≤◌, List}
use Rattle.decision_core.specs.Times.{IsAmong}
use Rattle.decision_core.specs.Decide.{MayStandFor}
use Rattle.decision_core.specs.Eras.{Numbering, EraState, is_placed, EraNext}

-- these calls are placed in place of those of a point
abbrev pub with_calls : {Tree : Type 0} → EraState Tree → List ℕ → EraState Tree
with_calls point calls = record { tree = point.tree; base = point.base; lost = point.lost; era = point.era; calls = calls }

-- each crash is of its era
abbrev pub CrashesAreOfEras : Numbering → Type 0
CrashesAreOfEras by = (e : ℕ) → 1 ≤ e → by.era_of (by.crash e) ≡ e

-- these calls have all that the point has, and else only calls of eras that are over
pub record AddsPast {Tree : Type 0} (by : Numbering) (point : EraState Tree) (calls : List ℕ) : Type 0 where
  pub keeps : (m : ℕ) → IsAmong point.calls m → IsAmong calls m
  pub only : (m : ℕ) → IsAmong calls m → IsAmong point.calls m ⊎ (by.era_of m < point.era)

-- such a point may stand for the point
abbrev pub PastMayCount : Type 1
PastMayCount = (Tree : Type 0) (Change : Tree → ℕ → Tree → Type 0) (by : Numbering) → CrashesAreOfEras by → (point : EraState Tree) (calls : List ℕ) → 1 ≤ point.era
    → AddsPast by point calls → MayStandFor is_placed (EraNext Change by) point (with_calls point calls)
