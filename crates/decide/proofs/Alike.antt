-- states that are compared by their numbers alone come of one thing
use Rattle.std.proofs.Common.{List, [], ◌∷◌, Some, refl}
use Rattle.decision_core.specs.States.{ComeOf}

pub all_alike : {State : Type 0} (states : List State) → ComeOf {Origin = Unit {0}} (λ (s : State). tt) (Some tt) states
all_alike [] = tt
all_alike (s ∷ states) = (refl, all_alike states)
