-- A plan of its parts.
use Rattle.std.proofs.Common.{◌≡◌, ℕ, ◌+◌, ◌≤◌, Bool, true, false, List, [], ◌∷◌, ◌++◌, length, Option, Some, None, refl, sym, ap, ◌∙◌, arith, append_assoc, codes, subst, length-append}
use Rattle.plan_text.specs.declared.plan.Step.{Step}
use Rattle.plan_text.specs.declared.plan.Step.TheVariants.{Go}
use Rattle.plan_text.specs.declared.line.Line.{Line}
use Rattle.plan_text.specs.declared.line.Line.TheVariants as lines
use Rattle.plan_text.specs.PlanText.{PlanText, line}
use Rattle.plan_text.specs.BadLine.{Begins}
use Rattle.plan_text.specs.Line.{IsFit, AreInOrder, last_of, text_of}
use Rattle.plan_text.specs.Draft.{step_list, behind_first, IsBegun}
use Rattle.plan_text.proofs.Listed.{AreFit, plan_of, text-lines_of, text-append, parts_fit, length-behind_first, all_append}
use Rattle.plan_text.proofs.Order.{in_order_push, last-append, parts_run, needed_waiting, needed_at_least}

-- parts whose lines stand in order with `end` behind them are a plan
pub PlanText-parts : (append barrier : Option ℕ) (steps : List Step) → AreFit (behind_first append barrier steps) → AreInOrder lines.First (behind_first append barrier steps ++ lines.End ∷ []) → length (behind_first append barrier steps) + 2 ≤ 10000 → PlanText (text_of (lines.First ∷ (behind_first append barrier steps ++ lines.End ∷ []))) (plan_of append barrier steps)
PlanText-parts append barrier steps fit ordered room =
    let parts = parts_fit append barrier steps fit in
    let count = length-behind_first append barrier steps in record {
      spelled = text-lines_of (plan_of append barrier steps);
      append_fault = parts.0;
      barrier_fault = parts.1;
      numbers = parts.2;
      run = parts_run append barrier steps ordered;
      within = omega arith;
    }

pub list-push : (steps : List Step) (s : Step) → step_list (steps ++ s ∷ []) ≡ step_list steps ++ lines.Step s ∷ []
list-push [] s = refl
list-push (t ∷ steps) s = ap (λ r. lines.Step t ∷ r) (list-push steps s)

pub parts-push : (append barrier : Option ℕ) (steps : List Step) (s : Step) → behind_first append barrier (steps ++ s ∷ []) ≡ behind_first append barrier steps ++ lines.Step s ∷ []
parts-push None None steps s = list-push steps s
parts-push None (Some b) steps s = ap (λ r. lines.BarrierFault b ∷ r) (list-push steps s)
parts-push (Some a) None steps s = ap (λ r. lines.AppendFault a ∷ r) (list-push steps s)
parts-push (Some a) (Some b) steps s = ap (λ r. lines.AppendFault a ∷ lines.BarrierFault b ∷ r) (list-push steps s)

text-more : (done more : List Line) → text_of (lines.First ∷ (done ++ more)) ≡ text_of (lines.First ∷ done) ++ text_of more
text-more done more = text-append (lines.First ∷ done) more

-- where no lane's line is the last, `end` may follow
pub ended_whole : (append barrier : Option ℕ) (steps : List Step) (count : ℕ) → IsBegun (behind_first append barrier steps) count false → PlanText (text_of (lines.First ∷ (behind_first append barrier steps ++ lines.End ∷ []))) (plan_of append barrier steps)
ended_whole append barrier steps count h =
    let done = behind_first append barrier steps in
    let least = needed_at_least (last_of lines.First done) h.goes_on in
    PlanText-parts append barrier steps h.fit
    (in_order_push lines.First lines.End done h.ordered (h.goes_on, sym h.waits))
    (omega (arith, h.room, h.counted, least))

-- where one is, `go` and `end` may
run_whole : (append barrier : Option ℕ) (steps : List Step) (count : ℕ) → IsBegun (behind_first append barrier steps) count true → PlanText (text_of (lines.First ∷ (behind_first append barrier (steps ++ Go ∷ []) ++ lines.End ∷ []))) (plan_of append barrier (steps ++ Go ∷ []))
run_whole append barrier steps count h =
    let done = behind_first append barrier steps in
    let pushed = parts-push append barrier steps Go in
    let two = needed_waiting (last_of lines.First done) (sym h.waits) in
    let more : AreFit (done ++ lines.Step Go ∷ []) = all_append IsFit done (lines.Step Go ∷ []) h.fit (tt, tt) in
    let ordered = in_order_push lines.First (lines.Step Go) done h.ordered h.goes_on in
    let last = last-append lines.First done (lines.Step Go ∷ []) in
    let whole = in_order_push lines.First lines.End (done ++ lines.Step Go ∷ []) ordered (rw last (tt, refl)) in
    PlanText-parts append barrier (steps ++ Go ∷ [])
    (rw pushed more)
    (rw pushed whole)
    (omega (arith, ap length pushed, length-append done (lines.Step Go ∷ []), h.room, h.counted, two))

pub begun_begins : (append barrier : Option ℕ) (steps : List Step) (count : ℕ) (waiting : Bool) → IsBegun (behind_first append barrier steps) count waiting → Begins (text_of (lines.First ∷ behind_first append barrier steps))
begun_begins append barrier steps count false h = record {
  plan = plan_of append barrier steps;
  rest = text_of (lines.End ∷ []);
  whole = subst (λ (t : List ℕ). PlanText t (plan_of append barrier steps)) (text-more (behind_first append barrier steps) (lines.End ∷ [])) (ended_whole append barrier steps count h);
}
begun_begins append barrier steps count true h =
    let done = behind_first append barrier steps in
    let more = ap (λ (ls : List Line). ls ++ lines.End ∷ []) (parts-push append barrier steps Go) ∙ append_assoc done (lines.Step Go ∷ []) (lines.End ∷ []) in
    let same = ap (λ (ls : List Line). text_of (lines.First ∷ ls)) more ∙ text-more done (lines.Step Go ∷ lines.End ∷ []) in record {
      plan = plan_of append barrier (steps ++ Go ∷ []);
      rest = text_of (lines.Step Go ∷ lines.End ∷ []);
      whole = subst (λ (t : List ℕ). PlanText t (plan_of append barrier (steps ++ Go ∷ []))) same (run_whole append barrier steps count h);
    }

-- the plan that a last line ends
pub finished : (append barrier : Option ℕ) (steps placed : List Step) (count : ℕ) (waiting : Bool) → IsBegun (behind_first append barrier steps) count waiting → waiting ≡ false → placed ≡ steps → PlanText (text_of (lines.First ∷ behind_first append barrier steps) ++ line (codes "end")) (plan_of append barrier placed)
finished append barrier steps placed count waiting h idle same =
    let begun = subst (λ (w : Bool). IsBegun (behind_first append barrier steps) count w) idle h in
    let whole = subst (λ (t : List ℕ). PlanText t (plan_of append barrier steps)) (text-more (behind_first append barrier steps) (lines.End ∷ [])) (ended_whole append barrier steps count begun) in
    subst (λ (p : List Step). PlanText (text_of (lines.First ∷ behind_first append barrier steps) ++ line (codes "end")) (plan_of append barrier p)) (sym same) whole
