-- Believed.
-- What the reasons say that are given for a certificate which is no witness (words of this project's own).
use Rattle.std.specs.Prelude.{◌≡◌, ◌+◌, ℕ, zero, suc, List, ◌∷◌, ◌++◌, length, map, Option, Some, None, IsSome, IfSome}
use Rattle.std.specs.List.{slice_get}
use Rattle.nfs3_types.specs.declared.calls.NfsCall.{NfsCall}
use Rattle.nfs3_types.specs.declared.replies.Outcome.{Outcome}
use Rattle.nfs3_types.specs.declared.replies.Outcome.TheVariants.{Received}
use Rattle.nfs_history.specs.declared.recorded.RecordedCall.{RecordedCall}
use Rattle.nfs_history.specs.declared.knowing.KnownCalls.{KnownCalls}
use Rattle.nfs_history.specs.Precedence.{begin_of, end_of}
use Rattle.certificate.specs.declared.plan.Place.{Place}
use Rattle.certificate.specs.declared.plan.EraPlan.{EraPlan}
use Rattle.certificate.specs.declared.plan.Certificate.{Certificate}
use Rattle.certificate.specs.Plan.{call_of, cut_of}
use Rattle.cut_check.specs.Places.{era_at}
use Rattle.replay_law.specs.Run.{TakenStep, state_after, kept_steps}
use Rattle.tree_nodes.specs.Tree.{Tree}
use Rattle.witness_check.specs.declared.fault.Fault.{Fault}
use Rattle.witness_check.specs.declared.fault.Fault.TheVariants as faults
use Rattle.witness_check.specs.Run.{step_at, steps_of, era_of, next_of, base_of}
use Rattle.witness_check.specs.Verdict.{IsPlanFault}
use Rattle.fault_reasons.specs.declared.reason.IllegalPlace.{IllegalPlace}
use Rattle.fault_reasons.specs.declared.reason.CallSpan.{CallSpan}
use Rattle.fault_reasons.specs.declared.reason.LostPlace.{LostPlace}
use Rattle.fault_reasons.specs.declared.reason.Reason.{Reason}
use Rattle.fault_reasons.specs.declared.reason.Reason.TheVariants as reasons

-- these eras and, in the next one, these places stand ahead of the place
pub record IsSpot (eras ahead : List EraPlan) (front : List Place) (place : Place) : Type 0 where
  pub era : EraPlan
  pub behind : List EraPlan
  pub back : List Place
  pub eras_are : eras ≡ ahead ++ era ∷ behind
  pub places_are : era.places ≡ front ++ place ∷ back

-- the steps that lead to the place behind these: what the eras kept, and the places of its own era
abbrev pub steps_behind : List RecordedCall → List EraPlan → List Place → List (TakenStep NfsCall Outcome)
steps_behind calls ahead front = kept_steps (map (era_of calls) ahead) ++ steps_of calls front

-- the call stands where it is said, the tree there is this one, which doesn't lead on by its outcome, and does by the reply that is called right
pub record IsIllegalIn (next : Tree → ℕ → NfsCall → Outcome → Option Tree) (base : Tree) (calls : List RecordedCall) (eras : List EraPlan) (told : IllegalPlace)
    : Type 0 where
  pub ahead : List EraPlan
  pub front : List Place
  pub place : Place
  pub spot : IsSpot eras ahead front place
  pub era : told.era ≡ length ahead + 1
  pub position : told.position ≡ length front + 1
  pub step : step_at calls place ≡ Some (record { number = told.number; call = told.call; outcome = told.outcome })
  pub reached : state_after next base (steps_behind calls ahead front) ≡ Some told.tree
  pub refused : next told.tree told.number told.call told.outcome ≡ None
  pub right : IfSome told.right (λ reply. IsSome (next told.tree told.number told.call (Received reply)))

-- the same by the rules of a history and a plan
abbrev pub IsIllegalPlace : KnownCalls → Certificate → IllegalPlace → Type 0
IsIllegalPlace history plan = IsIllegalIn (next_of history plan) (base_of history) history.calls plan.eras

-- a call with its events
abbrev pub span_of : List RecordedCall → ℕ → CallSpan
span_of calls n = record { number = n; begun = begin_of calls n; ended = end_of calls n }

-- a place of an era, from 1 on
abbrev pub place_at : List Place → ℕ → Option Place
place_at places zero = None
place_at places (suc k) = slice_get places k

-- at that position of that era stands a place of the call, and the cut of the era is that one
pub record IsLostIn (eras : List EraPlan) (told : LostPlace) : Type 0 where
  pub era : EraPlan
  pub there : era_at eras told.era ≡ Some era
  pub cut : told.cut ≡ cut_of era
  pub place : Place
  pub stands : place_at era.places told.position ≡ Some place
  pub named : told.number ≡ call_of place

-- the fault that a reason is told of
abbrev pub fault_of : Reason → Fault
fault_of (reasons.Illegal told) = faults.Illegal told.number
fault_of (reasons.Early call other) = faults.Early call.number other.number
fault_of (reasons.ShortCut told) = faults.ShortCut told.era told.position
fault_of (reasons.Other fault) = fault

-- a fault of which there is no more to tell: it names no call at its place, no two calls and no cut
abbrev pub IsPlain : Fault → Type 0
IsPlain (faults.Illegal number) = ⊥
IsPlain (faults.Early call other) = ⊥
IsPlain (faults.ShortCut era needed) = ⊥
IsPlain fault = Unit {0}

-- the reason is that of the plan's first fault, it tells all that there is, and what it tells is true
abbrev pub IsReasonOf : KnownCalls → Certificate → Reason → Type 0
IsReasonOf history plan (reasons.Illegal told) = IsPlanFault history plan (faults.Illegal told.number) × IsIllegalPlace history plan told
IsReasonOf history plan (reasons.Early call other) =
    IsPlanFault history plan (faults.Early call.number other.number) × (call ≡ span_of history.calls call.number) × (other ≡ span_of history.calls other.number)
IsReasonOf history plan (reasons.ShortCut told) = IsPlanFault history plan (faults.ShortCut told.era told.position) × IsLostIn plan.eras told
IsReasonOf history plan (reasons.Other fault) = IsPlanFault history plan fault × IsPlain fault
