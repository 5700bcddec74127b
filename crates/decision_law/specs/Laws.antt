-- Believed.
-- Why a walk over a history's events that comes to nothing shows that no plan is a witness.
use Rattle.std.specs.Prelude.{◌≡◌, ◌≢◌, ℕ, List, Some}
use Rattle.nfs3_types.specs.declared.calls.NfsCall.{NfsCall}
use Rattle.nfs3_types.specs.declared.replies.Outcome.{Outcome}
use Rattle.history_file.specs.Event.{Recording}
use Rattle.nfs_history.specs.declared.recorded.RecordedCall.{RecordedCall}
use Rattle.nfs_history.specs.declared.knowing.KnownCalls.{KnownCalls}
use Rattle.nfs_history.specs.History.{AreCallsOf}
use Rattle.certificate.specs.declared.plan.Certificate.{Certificate}
use Rattle.tree_handles.specs.Binding.{Bindings}
use Rattle.cut_check.specs.Places.{bindings_of}
use Rattle.cut_check.specs.Verifier.{verifier_of}
use Rattle.witness_check.specs.Run.{base_of}
use Rattle.witness_check.specs.Witness.{IsWitness}
use Rattle.decision_core.specs.declared.spans.Span.{Span}
use Rattle.decision_core.specs.Spanned.{AreSpansOf}
use Rattle.decision_core.specs.Eras.{IsNumbering, IsEraWitness, order_of}
use Rattle.decision_law.specs.Times.{AreTimed, era_start, times_of, numbering_of}
use Rattle.decision_law.specs.Machine.{Changes, IsOrder}
use Rattle.decision_law.specs.NeverLost.{Hints, IsAnswered, AreRight}
use Rattle.decision_law.specs.Plans.{eras_of_plan}
use Rattle.decision_law.specs.Spans.{AreSpans}

-- what each handle names by a plan
abbrev pub binds_of : KnownCalls → Certificate → Bindings
binds_of known plan = bindings_of known.head.root plan.binds

-- the calls of a history begin and end as its eras say
abbrev pub CallsAreTimed : Type 0
CallsAreTimed = (seen : Recording) (known : KnownCalls) → AreCallsOf seen known → AreTimed known (era_start seen.events)

module _ (known : KnownCalls) (start : ℕ → ℕ) (hints : Hints) where
  -- the eras are those of the calls' and the crashes' numbers and times
  abbrev pub AreNumbered : Type 0
  AreNumbered = IsNumbering (times_of known start) (numbering_of known hints) known.eras start

  -- the eras of the plan are a witness of eras, and one order, in which each crash is a call
  abbrev pub HasEraWitness : Certificate → Type 0
  HasEraWitness plan = IsEraWitness (Changes known (binds_of known plan)) (times_of known start) (numbering_of known hints) known.eras (base_of known) (eras_of_plan plan.eras)

  abbrev pub HasOrder : Certificate → Type 0
  HasOrder plan = IsOrder known start hints (binds_of known plan) (order_of (numbering_of known hints) 1 (eras_of_plan plan.eras))

  -- no order is there, whatever the handles name
  abbrev pub HasNoOrder : Type 0
  HasNoOrder = (binds : Bindings) (order : List ℕ) → ¬ IsOrder known start hints binds order

-- what a witness comes to, where the calls are timed and what is told is right
abbrev pub OfEachWitness : (KnownCalls → (ℕ → ℕ) → Hints → Certificate → Type 0) → Type 0
OfEachWitness Comes = (known : KnownCalls) (start : ℕ → ℕ) (hints : Hints) (plan : Certificate) → AreTimed known start → AreRight known hints → IsWitness known plan
    → Comes known start hints plan

-- where there is no order no plan is a witness
abbrev pub NoOrderNoWitness : Type 0
NoOrderNoWitness = (known : KnownCalls) (start : ℕ → ℕ) (hints : Hints) → AreTimed known start → AreRight known hints → HasNoOrder known start hints
    → (plan : Certificate) → ¬ IsWitness known plan

-- the spans of a history's calls and crashes are those of its times, so the events that are made of them tell these times
abbrev pub SpansTell : Type 0
SpansTell = (known : KnownCalls) (start : ℕ → ℕ) (spans : List Span) → AreTimed known start → AreSpans known start spans → AreSpansOf (times_of known start) spans

-- two replies in one era show different write verifiers (RFC 1813, section 3.3.7)
pub record ShowsTwoVerifiers (known : KnownCalls) : Type 0 where
  pub n : ℕ
  pub recorded : RecordedCall
  pub call : NfsCall
  pub outcome : Outcome
  pub at : ℕ
  pub answered : IsAnswered known n recorded call outcome at
  pub m : ℕ
  pub other : RecordedCall
  pub other_call : NfsCall
  pub other_outcome : Outcome
  pub other_at : ℕ
  pub other_answered : IsAnswered known m other other_call other_outcome other_at
  pub same_era : recorded.era ≡ other.era
  pub one : ℕ
  pub two : ℕ
  pub shows_one : verifier_of call outcome ≡ Some one
  pub shows_two : verifier_of other_call other_outcome ≡ Some two
  pub differ : one ≢ two

-- then no plan is a witness
abbrev pub TwoVerifiersNoWitness : Type 0
TwoVerifiersNoWitness = (known : KnownCalls) (start : ℕ → ℕ) → AreTimed known start → ShowsTwoVerifiers known → (plan : Certificate) → ¬ IsWitness known plan
