-- The eras of a plan run under the machine's rules where they run in the plan.
use Rattle.std.proofs.Common.{◌≡◌, ℕ, IsTrue, List, [], ◌∷◌, ◌++◌, length, take, drop, map, Option, Some, None, refl, sym, ap, subst, ◌∙◌, append_assoc}
use Rattle.std.specs.Prelude.{IsSome, option_and_then}
use Rattle.std.specs.List.{AllByRecursion, cons_option}
use Rattle.std.proofs.Math.Seq.{take-append_seam}
use Rattle.std.proofs.lemmas.List.{take-append-drop}
use Rattle.std.proofs.lemmas.List.Elements.{filter_map-append}
use Rattle.nfs3_types.specs.declared.calls.NfsCall.{NfsCall}
use Rattle.nfs3_types.specs.declared.replies.Outcome.{Outcome}
use Rattle.nfs_history.specs.declared.recorded.RecordedCall.{RecordedCall}
use Rattle.nfs_history.specs.declared.knowing.KnownCalls.{KnownCalls}
use Rattle.nfs_history.specs.Precedence.{call_at}
use Rattle.certificate.specs.declared.plan.Place.{Place}
use Rattle.certificate.specs.declared.plan.EraPlan.{EraPlan}
use Rattle.certificate.specs.Plan.{call_of, cut_of}
use Rattle.order_check.specs.Places.{may_place, passes}
use Rattle.tree_nodes.specs.Tree.{Tree}
use Rattle.tree_handles.specs.Binding.{Bindings}
use Rattle.file_tree.specs.Setting.{next_in}
use Rattle.replay_law.specs.Run.{state_after, kept_steps, EveryEraRuns}
use Rattle.replay_law.proofs.Runs.{state_after-append}
use Rattle.witness_check.specs.Run.{step_at, steps_of, era_of}
use Rattle.decision_core.specs.Decide.{Leads}
use Rattle.decision_core.specs.Eras.{untold, PlanRuns}
use Rattle.decision_core.proofs.Orders.{all_ahead, all_behind}
use Rattle.decision_law.specs.Machine.{Changes}
use Rattle.decision_law.specs.Plans.{eras_of_plan}
use Rattle.decision_law.proofs.Numbered.{passing}
use Rattle.decision_law.proofs.Placed.{step_placed}

-- a state that is there
there : {X : Type 0} (o : Option X) → IsSome o → (x : X) × (o ≡ Some x)
there None is = absurd cc
there (Some x) is = (x, refl)

-- a run of one step and more
one_step : {X Y : Type 0} (o : Option X) (f : X → Option Y) (y : Y) → option_and_then f o ≡ Some y → (x : X) × (o ≡ Some x) × (f x ≡ Some y)
one_step None f y is = absurd cc
one_step (Some x) f y is = (x, refl, is)

-- the places may be placed
abbrev pub MayBePlaced : List RecordedCall → List Place → Type 0
MayBePlaced calls places = AllByRecursion (λ place. IsTrue (passes (may_place place) (call_at calls (call_of place)))) places

module _ (known : KnownCalls) (binds : Bindings) where
  abbrev next : Tree → ℕ → NfsCall → Outcome → Option Tree
  next = next_in known.head.profile (length known.head.start) binds

  abbrev Runs : Tree → List Place → Tree → Type 0
  Runs tree places last = state_after next tree (steps_of known.calls places) ≡ Some last

  -- a run of places is one of their calls
  leads : (places : List Place) (tree last : Tree) → MayBePlaced known.calls places → Runs tree places last → Leads untold (Changes known binds) tree (map call_of places) last
  leads [] tree last may run = cc
  leads (place ∷ places) tree last may run =
      let p = passing (may_place place) (call_at known.calls (call_of place)) may.0 in
      let s = step_placed known.calls place p.0 p.1 p.2 in
      let first : state_after next tree (cons_option (Some (record { number = call_of place; call = s.call; outcome = s.outcome })) (steps_of known.calls places)) ≡ Some last =
      subst (λ o. state_after next tree (cons_option o (steps_of known.calls places)) ≡ Some last) s.is_step run in
      let parts = one_step (next tree (call_of place) s.call s.outcome) (λ after. state_after next after (steps_of known.calls places)) last first in (
        parts.0,
        record { recorded = p.0; call = s.call; outcome = s.outcome; stands = p.1; judged = s.judged; came_out = s.came_out; leads = parts.1 },
        leads places parts.0 last may.1 parts.2,
      )

  -- the steps of an era in two parts
  steps_parted : (era : EraPlan) → steps_of known.calls era.places ≡ steps_of known.calls (take (cut_of era) era.places) ++ steps_of known.calls (drop (cut_of era) era.places)
  steps_parted era =
      ap (steps_of known.calls) (sym (take-append-drop (cut_of era) era.places)) ∙ filter_map-append (step_at known.calls) (take (cut_of era) era.places) (drop (cut_of era) era.places)

  kept_are : (era : EraPlan) → take (era_of known.calls era).kept (era_of known.calls era).steps ≡ steps_of known.calls (take (cut_of era) era.places)
  kept_are era =
      ap (take (length (steps_of known.calls (take (cut_of era) era.places)))) (steps_parted era)
      ∙ take-append_seam (steps_of known.calls (take (cut_of era) era.places)) (steps_of known.calls (drop (cut_of era) era.places))

  -- the first era runs
  first_runs : (tree : Tree) (era : EraPlan) (eras : List EraPlan) → EveryEraRuns next tree (map (era_of known.calls) (era ∷ eras)) → IsSome (state_after next tree (steps_of known.calls era.places))
  first_runs tree era eras every = every [] (map (era_of known.calls) eras) (era_of known.calls era) refl

  -- and those behind it from what it kept
  rest_run : (tree base : Tree) (era : EraPlan) (eras : List EraPlan) → EveryEraRuns next tree (map (era_of known.calls) (era ∷ eras))
      → Runs tree (take (cut_of era) era.places) base → EveryEraRuns next base (map (era_of known.calls) eras)
  rest_run tree base era eras every kept ahead behind later parts =
      let whole = every (era_of known.calls era ∷ ahead) behind later (ap (λ es. era_of known.calls era ∷ es) parts) in
      let front = take (era_of known.calls era).kept (era_of known.calls era).steps in
      let at_base : state_after next tree front ≡ Some base = ap (state_after next tree) (kept_are era) ∙ kept in
      let same : state_after next tree ((front ++ kept_steps ahead) ++ later.steps) ≡ state_after next base (kept_steps ahead ++ later.steps) =
      ap (state_after next tree) (append_assoc front (kept_steps ahead) later.steps)
      ∙ state_after-append next tree front (kept_steps ahead ++ later.steps)
      ∙ ap (option_and_then (λ t. state_after next t (kept_steps ahead ++ later.steps))) at_base in
      subst IsSome same whole

  -- an era in two parts
  parted : (tree last : Tree) (era : EraPlan) → state_after next tree (steps_of known.calls era.places) ≡ Some last
      → (base : Tree) × Runs tree (take (cut_of era) era.places) base × Runs base (drop (cut_of era) era.places) last
  parted tree last era run =
      let kept = steps_of known.calls (take (cut_of era) era.places) in
      let lost = steps_of known.calls (drop (cut_of era) era.places) in
      one_step (state_after next tree kept) (λ t. state_after next t lost) last (sym (ap (state_after next tree) (steps_parted era) ∙ state_after-append next tree kept lost) ∙ run)

  -- all eras run
  pub plan_runs : (tree : Tree) (eras : List EraPlan) → AllByRecursion (λ era. MayBePlaced known.calls era.places) eras → EveryEraRuns next tree (map (era_of known.calls) eras)
      → PlanRuns (Changes known binds) tree (eras_of_plan eras)
  plan_runs tree [] may every = tt
  plan_runs tree (era ∷ []) may every =
      let run = there (state_after next tree (steps_of known.calls era.places)) (first_runs tree era [] every) in
      (run.0, run.0, leads era.places tree run.0 may.0 run.1, refl, tt)
  plan_runs tree (era ∷ following ∷ eras) may every =
      let run = there (state_after next tree (steps_of known.calls era.places)) (first_runs tree era (following ∷ eras) every) in
      let p = parted tree run.0 era run.1 in
      let Places : Place → Type 0 = λ place. IsTrue (passes (may_place place) (call_at known.calls (call_of place))) in
      let both : AllByRecursion Places (take (cut_of era) era.places ++ drop (cut_of era) era.places) = subst (AllByRecursion Places) (sym (take-append-drop (cut_of era) era.places)) may.0 in (
        p.0,
        run.0,
        leads (take (cut_of era) era.places) tree p.0 (all_ahead Places (take (cut_of era) era.places) (drop (cut_of era) era.places) both) p.1,
        leads (drop (cut_of era) era.places) p.0 run.0 (all_behind Places (take (cut_of era) era.places) (drop (cut_of era) era.places) both) p.2,
        plan_runs p.0 (following ∷ eras) may.1 (rest_run tree p.0 era (following ∷ eras) every p.1),
      )

  -- a place whose call changed some tree
  abbrev pub HasRun : Place → Type 0
  HasRun place = (tree : Tree) × (after : Tree) × Changes known binds tree (call_of place) after

  led : (places : List Place) (tree last : Tree) → Leads untold (Changes known binds) tree (map call_of places) last → AllByRecursion HasRun places
  led [] tree last run = tt
  led (place ∷ places) tree last run = ((tree, run.0, run.1), led places run.0 last run.2)

  joined : (P : Place → Type 0) (xs ys : List Place) → AllByRecursion P xs → AllByRecursion P ys → AllByRecursion P (xs ++ ys)
  joined P [] ys first second = second
  joined P (x ∷ xs) ys first second = (first.0, joined P xs ys first.1 second)

  -- each place of a plan that runs has run
  pub have_run : (tree : Tree) (eras : List EraPlan) → PlanRuns (Changes known binds) tree (eras_of_plan eras) → AllByRecursion (λ era. AllByRecursion HasRun era.places) eras
  have_run tree [] runs = tt
  have_run tree (era ∷ []) runs = (led era.places tree runs.0 runs.2, tt)
  have_run tree (era ∷ following ∷ eras) runs = (
    subst (AllByRecursion HasRun) (take-append-drop (cut_of era) era.places)
        (joined HasRun (take (cut_of era) era.places) (drop (cut_of era) era.places) (led (take (cut_of era) era.places) tree runs.0 runs.2)
        (led (drop (cut_of era) era.places) runs.0 runs.1 runs.3)),
    have_run runs.0 (following ∷ eras) runs.4,
  )
