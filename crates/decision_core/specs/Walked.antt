-- Believed.
-- What the answer of a walk says.
use Rattle.std.specs.Prelude.{◌<◌, length, List}
use Rattle.std.specs.List.{slice_index_or}
use Rattle.decision_core.specs.declared.deciding.Event.{Event}
use Rattle.decision_core.specs.declared.deciding.Event.TheVariants.{Passed}
use Rattle.decision_core.specs.declared.deciding.Walked.{Walked}
use Rattle.decision_core.specs.declared.deciding.Walked.TheVariants.{NoWitness, Left}
use Rattle.decision_core.specs.Events.{IsAnswer}

-- this holds where no order is a witness
abbrev pub IfNoWitness : {State : Type 0} → Type 0 → Walked State → Type 0
IfNoWitness P (NoWitness event call) = P
IfNoWitness P (Left states) = Unit {0}

-- the event that is named is the answer of the call that is named
abbrev pub NamesAnswer : {State : Type 0} → List Event → Walked State → Type 0
NamesAnswer events (NoWitness event call) = (event < length events) × IsAnswer (slice_index_or events event Passed) call
NamesAnswer events (Left states) = Unit {0}

-- where states are left there is one
abbrev pub HasState : {State : Type 0} → Walked State → Type 0
HasState (NoWitness event call) = Unit {0}
HasState (Left states) = 0 < length states.items
