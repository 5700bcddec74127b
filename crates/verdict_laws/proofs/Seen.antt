-- what an era sees runs, and a READ there gives what stands
use Rattle.std.proofs.Common.{◌≡◌, List, [], ◌∷◌, ◌++◌, map, refl, sym, ap, ◌∙◌, subst}
use Rattle.std.specs.Prelude.{IsSome}
use Rattle.std.specs.List.{flat_map}
use Rattle.std.proofs.lemmas.List.{map-append}
use Rattle.std.proofs.lemmas.List.Elements.{filter_map-append}
use Rattle.nfs3_types.specs.declared.calls.NfsCall.{NfsCall}
use Rattle.nfs3_types.specs.declared.replies.Outcome.{Outcome}
use Rattle.nfs_history.specs.declared.recorded.RecordedCall.{RecordedCall}
use Rattle.nfs_history.specs.declared.knowing.KnownCalls.{KnownCalls}
use Rattle.certificate.specs.declared.plan.Certificate.{Certificate}
use Rattle.certificate.specs.declared.plan.EraPlan.{EraPlan}
use Rattle.certificate.specs.Plan.{cut_of}
use Rattle.order_check.specs.Places.{order_from}
use Rattle.order_check.specs.Shape.{NameDifferentCalls}
use Rattle.replay_law.specs.Run.{TakenStep, state_after, kept_steps}
use Rattle.tree_laws.proofs.Later.{runs_read_back}
use Rattle.cut_check.specs.Places.{bindings_of}
use Rattle.witness_check.specs.Run.{step_at, steps_of, era_of, next_of, base_of}
use Rattle.witness_check.specs.Witness.{IsWitness}
use Rattle.witness_check.proofs.Steps.{kept}
use Rattle.verdict_laws.specs.Kept.{left_of, order_seen, WhatWasKept}
use Rattle.verdict_laws.proofs.Numbers.{from_one, numbers_differ}

-- the steps that eras keep are those of the places that were left of them
kept_ahead : (calls : List RecordedCall) (ahead : List EraPlan) → kept_steps (map (era_of calls) ahead) ≡ steps_of calls (flat_map left_of ahead)
kept_ahead calls [] = refl
kept_ahead calls (era ∷ ahead) =
    (λ i. kept (step_at calls) (cut_of era) era.places i ++ kept_ahead calls ahead i) ∙ sym (filter_map-append (step_at calls) (left_of era) (flat_map left_of ahead))

pub seen_runs : (history : KnownCalls) (plan : Certificate) (ahead behind : List EraPlan) (era : EraPlan) → IsWitness history plan → plan.eras ≡ ahead ++ era ∷ behind
    → IsSome (state_after (next_of history plan) (base_of history) (steps_of history.calls (order_seen ahead era)))
seen_runs history plan ahead behind era witness eras =
    let runs = witness.runs (map (era_of history.calls) ahead) (map (era_of history.calls) behind) (era_of history.calls era)
    (ap (map (era_of history.calls)) eras ∙ map-append (era_of history.calls) ahead (era ∷ behind)) in
    subst (λ (steps : List (TakenStep NfsCall Outcome)). IsSome (state_after (next_of history plan) (base_of history) steps))
    (ap (λ (steps : List (TakenStep NfsCall Outcome)). steps ++ steps_of history.calls era.places) (kept_ahead history.calls ahead)
    ∙ sym (filter_map-append (step_at history.calls) (flat_map left_of ahead) era.places)) runs

pub what_was_kept : WhatWasKept
what_was_kept history plan ahead behind era write read answer byte is witness eras later =
    let once = subst (λ (es : List EraPlan). NameDifferentCalls (order_from 1 es)) eras witness.shape.once in
    runs_read_back history.head.profile history.head.start (bindings_of history.head.root plan.binds) (steps_of history.calls (order_seen ahead era)) write read answer byte is
    (seen_runs history plan ahead behind era witness eras) (from_one history.calls (order_seen ahead era)) (numbers_differ history.calls ahead behind era once) later
