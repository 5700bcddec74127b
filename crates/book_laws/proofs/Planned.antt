-- the replies of a book's plan are those of its eras
use Rattle.std.proofs.Common.{◌≡◌, ℕ, zero, suc, ◌+◌, List, [], ◌∷◌, length, take, map, Option, Some, None, refl, sym, ap, ◌∙◌, subst}
use Rattle.std.specs.Prelude.{IsSome, option_and_then}
use Rattle.std.specs.List.{cons_option}
use Rattle.nfs3_types.specs.declared.calls.NfsCall.{NfsCall}
use Rattle.nfs3_types.specs.declared.replies.NfsReply.{NfsReply}
use Rattle.nfs3_types.specs.declared.replies.Outcome.{Outcome}
use Rattle.nfs3_types.specs.declared.replies.Outcome.TheVariants as outcomes
use Rattle.nfs_history.specs.declared.recorded.Meaning.TheVariants as meanings
use Rattle.nfs_history.specs.declared.recorded.RecordedCall.{RecordedCall}
use Rattle.certificate.specs.declared.plan.Place.{Place}
use Rattle.certificate.specs.declared.plan.Place.TheVariants.{Answered, Taken}
use Rattle.replay_law.specs.Run.{state_after}
use Rattle.tree_nodes.specs.Tree.{Tree}
use Rattle.tree_nodes.proofs.Chains.{chained, same_some, value_of}
use Rattle.tree_laws.specs.Outcomes.{count_written}
use Rattle.witness_check.specs.Run.{step_with, step_of_call, step_at, steps_of, era_of}
use Rattle.book_laws.specs.Placing.{Placed}
use Rattle.book_laws.specs.Book.{Setting, next_by}
use Rattle.book_laws.specs.Plan.{place_of, places_of, plan_over}
use Rattle.book_laws.proofs.Invariant.{Over, IsKnown, AreKnown, AllKnown, AllRun}
use Rattle.book_laws.proofs.Lists.{taken_given}
use Rattle.book_laws.proofs.Shaped.{plans, Stands, stands}
use Rattle.book_laws.proofs.Shaped.Stands.{answered, taken}
use Rattle.book_laws.proofs.Running.{plan_run}
use Rattle.book_laws.proofs.Serving.{IsServedStep, AreServed, AllServed}

-- each reply of a list of eras is served
abbrev pub EachEraServed : Setting → Tree → List Over → Type 0
EachEraServed set tree [] = Unit {0}
EachEraServed set tree (era ∷ eras) =
    AreServed set tree era.steps × ((base : Tree) → state_after (next_by set) tree (take era.kept era.steps) ≡ Some base → EachEraServed set base eras)

module _ (calls : List RecordedCall) (set : Setting) (at_first : Tree) where
  abbrev next : Tree → ℕ → NfsCall → Outcome → Option Tree
  next = next_by set

  -- the step of a place is that of its call, or has no reply
  given : (era : ℕ) (step : Placed) (tree : Tree) → IsKnown calls era step → IsServedStep set tree step → (place : Place) → place_of calls step ≡ Some place → (other : Placed)
      → step_at calls place ≡ Some other → IsServedStep set tree other
  given era step tree known served place is other at = go (stands calls era step place known is) where
    go : Stands calls step known.call place → IsServedStep set tree other
    go (answered ended came place_is) = subst (IsServedStep set tree) (same_some step other (sym found ∙ at)) served where
      found : step_at calls place ≡ Some step
      found =
          ap (step_at calls) place_is ∙ ap (option_and_then (step_of_call (Answered step.number))) known.recorded
          ∙ ap (λ m. option_and_then (step_with step.number m) known.call.outcome) known.judged ∙ ap (option_and_then (step_with step.number (meanings.Judged step.call))) came
    go (taken quiet recorded place_is) = λ reply received. absurd (clash (ap (λ (s : Placed). s.outcome) (same_some without other (sym found ∙ at)) ∙ received)) where
      without : Placed
      without = record { number = step.number; call = step.call; outcome = outcomes.Taken (count_written step.outcome) }

      found : step_at calls place ≡ Some without
      found =
          ap (step_at calls) place_is ∙ ap (option_and_then (step_of_call (Taken step.number (count_written step.outcome)))) known.recorded
          ∙ ap (λ m. step_with step.number m (outcomes.Taken (count_written step.outcome))) known.judged

      clash : {count : Option ℕ} {reply : NfsReply} → outcomes.Taken count ≡ outcomes.Received reply → ⊥
      clash e = cc

  -- one step more in front, or none
  served_cons : (tree first : Tree) (o : Option Placed) (rest : List Placed) → state_after next tree (cons_option o []) ≡ Some first → ((other : Placed) → o ≡ Some other → IsServedStep set tree other)
      → AreServed set first rest → AreServed set tree (cons_option o rest)
  served_cons tree first None rest e this a = subst (λ (t : Tree). AreServed set t rest) (sym (same_some tree first e)) a
  served_cons tree first (Some other) rest e this a =
      (this other refl, λ after to. subst (λ (t : Tree). AreServed set t rest) (same_some first after (sym e ∙ ap (option_and_then (λ t. state_after next t [])) to)) a)

  pub plan_served : (era : ℕ) (steps : List Placed) → AreKnown calls era steps → (tree final : Tree) → state_after next tree steps ≡ Some final → AreServed set tree steps
      → AreServed set tree (steps_of calls (places_of calls steps))
  plan_served era [] known tree final e a = tt
  plan_served era (step ∷ steps) known tree final e a =
      let first = chained (λ after. state_after next after steps) (next tree step.number step.call step.outcome) final e in
      let alone = plan_run calls set at_first era (step ∷ []) (known.0, tt) tree first.0 (ap (option_and_then (λ after. state_after next after [])) first.1) in
      go first.0 (place_of calls step) refl alone (plan_served era steps known.1 first.0 final first.2 (a.1 first.0 first.1)) where
        go : (mid : Tree) (o : Option Place) → place_of calls step ≡ o → state_after next tree (steps_of calls (cons_option o [])) ≡ Some mid
            → AreServed set mid (steps_of calls (places_of calls steps)) → AreServed set tree (steps_of calls (cons_option o (places_of calls steps)))
        go mid None is same rest = subst (λ (t : Tree). AreServed set t (steps_of calls (places_of calls steps))) (sym (same_some tree mid same)) rest
        go mid (Some place) is to rest = served_cons tree mid (step_at calls place) (steps_of calls (places_of calls steps)) to (given era step tree known.0 a.0 place is) rest

  -- ---- all eras

  known_front : (era n : ℕ) (steps : List Placed) → AreKnown calls era steps → AreKnown calls era (take n steps)
  known_front era zero steps known = tt
  known_front era (suc n) [] known = tt
  known_front era (suc n) (step ∷ steps) known = (known.0, known_front era n steps known.1)

  -- what an era that is over kept, its plan keeps
  kept_same : (first : Over) → take (era_of calls (plan_over calls first)).kept (era_of calls (plan_over calls first)).steps ≡ steps_of calls (places_of calls (take first.kept first.steps))
  kept_same first =
      let places = places_of calls first.steps in
      let cut = length (places_of calls (take first.kept first.steps)) in
      taken_given (step_at calls) cut places ∙ ap (steps_of calls) (taken_given (place_of calls) first.kept first.steps)

  served_some : (era : ℕ) (steps : List Placed) → AreKnown calls era steps → (tree : Tree) → IsSome (state_after next tree steps) → AreServed set tree steps
      → AreServed set tree (steps_of calls (places_of calls steps))
  served_some era steps known tree s a = let final = value_of (state_after next tree steps) s in plan_served era steps known tree final.0 final.1 a

  pub all_planned : (e : ℕ) (over : List Over) (placed : List Placed) → AllKnown calls e over placed → (tree : Tree) → AllRun set tree over placed → AllServed set tree over placed
      → EachEraServed set tree (map (era_of calls) (plans calls over placed))
  all_planned e [] placed known tree runs a = (served_some e placed known tree runs a, λ base kept. tt)
  all_planned e (first ∷ over) placed known tree runs a = (
    served_some e first.steps known.0 tree runs.0 a.0,
    (λ base kept. subst (λ (t : Tree). EachEraServed set t (map (era_of calls) (plans calls over placed))) (same_some runs.1.0 base (sym led ∙ kept))
        (all_planned (e + 1) over placed known.1 runs.1.0 runs.1.2 (a.1 runs.1.0 runs.1.1))),
  ) where
    led : state_after next tree (take (era_of calls (plan_over calls first)).kept (era_of calls (plan_over calls first)).steps) ≡ Some runs.1.0
    led = ap (state_after next tree) (kept_same first) ∙ plan_run calls set at_first e (take first.kept first.steps) (known_front e first.kept first.steps known.0) tree runs.1.0 runs.1.1
