-- One more line of a draft.
use Rattle.std.proofs.Common.{◌≡◌, ℕ, ◌+◌, ◌≤◌, Bool, true, false, List, [], ◌∷◌, ◌++◌, Option, Some, None, refl, sym, ap, ◌∙◌, arith, subst, length-append}
use Rattle.plan_text.specs.declared.plan.Step.{Step}
use Rattle.plan_text.specs.declared.plan.Step.TheVariants.{Lane, Go, Crash}
use Rattle.plan_text.specs.declared.line.Line.{Line}
use Rattle.plan_text.specs.declared.line.Line.TheVariants as lines
use Rattle.plan_text.specs.PlanText.{HasNumbers}
use Rattle.plan_text.specs.Line.{IsFit, IsFirst, awaits_step, needed_behind_step, crashes, IsAheadOfBarrier, NotEnd, awaits, needed, last_of}
use Rattle.plan_text.specs.Draft.{append_list, step_list, behind_first, IsBegun, MayFollow}
use Rattle.plan_text.proofs.Listed.{all_append}
use Rattle.plan_text.proofs.Order.{in_order_push, last-append}
use Rattle.plan_text.proofs.Planned.{parts-push}

pub begun_push : (done more : List Line) (count : ℕ) (waiting : Bool) (l : Line) → IsBegun done count waiting → IsFit l → NotEnd l → MayFollow done l → more ≡ done ++ l ∷ [] → IsBegun more (count + 1) (awaits l)
begun_push done more count waiting l h fit goes may e =
    subst (λ (ls : List Line). IsBegun ls (count + 1) (awaits l)) (sym e) pushed
  where
    last : last_of lines.First (done ++ l ∷ []) ≡ l
    last = last-append lines.First done (l ∷ [])

    pushed : IsBegun (done ++ l ∷ []) (count + 1) (awaits l)
    pushed = record {
      fit = all_append IsFit done (l ∷ []) h.fit (fit, tt);
      ordered = in_order_push lines.First l done h.ordered may.0;
      goes_on = subst NotEnd (sym last) goes;
      waits = ap awaits (sym last);
      counted = omega (arith, h.counted, length-append done (l ∷ []));
      room = omega (arith, h.counted, may.1, ap needed last);
    }

-- the last of some steps is a step
last_step : (s : Step) (steps : List Step) → (t : Step) × (last_of (lines.Step s) (step_list steps) ≡ lines.Step t)
last_step s [] = (s, refl)
last_step s (t ∷ steps) = last_step t steps

step_not_first : (s : Step) (steps : List Step) → IsAheadOfBarrier (last_of (lines.Step s) (step_list steps)) → ⊥
step_not_first s steps h =
    let last = last_step s steps in subst IsAheadOfBarrier last.1 h

first_ahead : (l : Line) → IsFirst l → IsAheadOfBarrier l
first_ahead lines.First h = tt
first_ahead (lines.AppendFault a) h = tt
first_ahead (lines.BarrierFault b) h = absurd h
first_ahead (lines.Step s) h = absurd h
first_ahead lines.End h = absurd h

-- a barrier's fault stands behind no other, and behind no step
pub ahead_of_barrier : (append barrier : Option ℕ) (steps : List Step) → IsAheadOfBarrier (last_of lines.First (behind_first append barrier steps)) → (barrier ≡ None) × (steps ≡ [])
ahead_of_barrier append None [] h = (refl, refl)
ahead_of_barrier None (Some b) [] h = absurd h
ahead_of_barrier (Some a) (Some b) [] h = absurd h
ahead_of_barrier None None (s ∷ steps) h = absurd (step_not_first s steps h)
ahead_of_barrier (Some a) None (s ∷ steps) h = absurd (step_not_first s steps h)
ahead_of_barrier None (Some b) (s ∷ steps) h = absurd (step_not_first s steps h)
ahead_of_barrier (Some a) (Some b) (s ∷ steps) h = absurd (step_not_first s steps h)

-- an append's fault stands behind the first line
pub ahead_of_append : (append barrier : Option ℕ) (steps : List Step) → IsFirst (last_of lines.First (behind_first append barrier steps)) → (append ≡ None) × (barrier ≡ None) × (steps ≡ [])
ahead_of_append append barrier steps h =
    let late = ahead_of_barrier append barrier steps (first_ahead (last_of lines.First (behind_first append barrier steps)) h) in
    (none append (subst (λ (ss : List Step). IsFirst (last_of lines.First (append_list append ++ step_list ss))) late.1 (subst (λ (o : Option ℕ). IsFirst (last_of lines.First (behind_first append o steps))) late.0 h)), late.0, late.1)
  where
    none : (o : Option ℕ) → IsFirst (last_of lines.First (append_list o ++ [])) → o ≡ None
    none None h = refl
    none (Some a) h = absurd h

-- how many lines a step needs behind it
pub needed_lane : (s : Step) → awaits_step s ≡ true → needed_behind_step s ≡ 2
needed_lane (Lane s) h = refl
needed_lane Go h = absurd cc
needed_lane (Crash k) h = absurd cc

pub needed_other : (s : Step) → awaits_step s ≡ false → needed_behind_step s ≡ 1
needed_other (Lane s) h = absurd cc
needed_other Go h = refl
needed_other (Crash k) h = refl

step_may : (done : List Line) (count behind : ℕ) (waiting : Bool) (step : Step) → IsBegun done count waiting → behind ≡ needed_behind_step step → (crashes step ≡ true → waiting ≡ false) → count + 1 + behind ≤ 10000 → MayFollow done (lines.Step step)
step_may done count behind waiting (Lane s) h is idle room = (h.goes_on, omega (arith, h.counted, is, room))
step_may done count behind waiting Go h is idle room = (h.goes_on, omega (arith, h.counted, is, room))
step_may done count behind waiting (Crash k) h is idle room = ((h.goes_on, sym h.waits ∙ idle refl), omega (arith, h.counted, is, room))

pub step_taken : (append barrier : Option ℕ) (steps pushed : List Step) (count behind : ℕ) (waiting lane : Bool) (step : Step) → IsBegun (behind_first append barrier steps) count waiting → HasNumbers step → pushed ≡ steps ++ step ∷ [] → lane ≡ awaits_step step → behind ≡ needed_behind_step step → (crashes step ≡ true → waiting ≡ false) → count + 1 + behind ≤ 10000 → IsBegun (behind_first append barrier pushed) (count + 1) lane × (behind_first append barrier pushed ≡ behind_first append barrier steps ++ lines.Step step ∷ [])
step_taken append barrier steps pushed count behind waiting lane step h numbers is awaits_it follows idle room =
    let done = behind_first append barrier steps in
    let more = ap (behind_first append barrier) is ∙ parts-push append barrier steps step in
    let begun = begun_push done (behind_first append barrier pushed) count waiting (lines.Step step) h numbers tt (step_may done count behind waiting step h follows idle room) more in
    (subst (λ (w : Bool). IsBegun (behind_first append barrier pushed) (count + 1) w) (sym awaits_it) begun, more)
