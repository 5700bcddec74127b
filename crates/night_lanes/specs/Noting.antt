-- For the prover, and for callers.
-- What becomes of a log whose events may be known.
use Rattle.std.specs.Prelude.{◌≡◌, ⊤, Option, Some, None}
use Rattle.history_file.specs.Event.{Event, Recording}
use Rattle.nfs_tap.specs.Noting.{with_event}

-- known events get one more
abbrev pub Gains : Option Recording → Option Recording → Event → Type 0
Gains None new e = ⊤
Gains (Some log) None e = ⊥
Gains (Some log) (Some more) e = more ≡ with_event log e

-- known events stay as they were
abbrev pub Stays : Option Recording → Option Recording → Type 0
Stays None new = ⊤
Stays (Some log) None = ⊥
Stays (Some log) (Some same) = same ≡ log

-- known events get this one where it is due
abbrev pub GainsIf : {X : Type 0} → Option X → Option Recording → Option Recording → Event → Type 0
GainsIf (Some due) old new e = Gains old new e
GainsIf None old new e = Stays old new
