-- Believed.
-- What a decision says of a history (buffered durable linearizability, Izraelevitz, Mendes and Scott 2016, section 4, by the definition of
-- `witness_check`).
use Rattle.std.specs.Prelude.{◌≡◌, ◌⊎◌, ℕ, ◌+◌, ◌<◌, ◌≤◌, List, length, Some}
use Rattle.nfs_history.specs.declared.knowing.KnownCalls.{KnownCalls}
use Rattle.nfs_history.specs.Precedence.{end_of}
use Rattle.certificate.specs.declared.plan.Certificate.{Certificate}
use Rattle.witness_check.specs.Witness.{IsWitness}
use Rattle.nfs_history.specs.HistoryValue.{HistoryValue}
use Rattle.nfs_history.specs.History.{recording_of}
use Rattle.decision_core.specs.declared.deciding.Event.{Event}
use Rattle.decision_core.specs.declared.deciding.Walked.{Walked}
use Rattle.decision_core.specs.declared.deciding.Walked.TheVariants.{NoWitness, Left}
use Rattle.decision_core.specs.Events.{Tells}
use Rattle.decision_walk.specs.decision_law_specs.Times.{AreTimed, era_start, times_of}
use Rattle.decide.specs.declared.decision.Decision.{Decision}
use Rattle.decide.specs.declared.decision.Decision.TheVariants.{Yes, No, Undecided, NoMemory}

-- no plan is a witness of the history
abbrev pub HasNoWitness : KnownCalls → Type 0
HasNoWitness known = (plan : Certificate) → ¬ IsWitness known plan

-- the call that is named was answered at the event that is named; or it is no call, but a number past the last one, by which an era's end is named
abbrev pub IsAnsweredAt : KnownCalls → ℕ → ℕ → Type 0
IsAnsweredAt known call event =
    (end_of known.calls call ≡ Some event) ⊎ ((length known.calls < call) × (call ≤ length known.calls + known.eras))

-- a yes has a witness, and where the answer is no there is none; the other answers claim nothing
abbrev pub Says : KnownCalls → Decision → Type 0
Says known (Yes plan) = IsWitness known plan
Says known (No refusal) = HasNoWitness known × IsAnsweredAt known refusal.call refusal.event
Says known (Undecided reason) = Unit {0}
Says known NoMemory = Unit {0}

-- ---- for the prover

-- where no state is left there is none either, and the call is named whose answer leaves none
abbrev pub Walks : {State : Type 0} → KnownCalls → Walked State → Type 0
Walks known (NoWitness event call) = HasNoWitness known × IsAnsweredAt known call (event + 1)
Walks known (Left states) = Unit {0}

-- the calls are timed by these starts of the history's eras, and the events tell when its calls and crashes begin and end
pub record TellsOf (history : HistoryValue) (events : List Event) : Type 0 where
  pub timed : AreTimed history.known (era_start (recording_of history).events)
  pub tells : Tells (times_of history.known (era_start (recording_of history).events)) events
