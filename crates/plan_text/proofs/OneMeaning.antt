-- A text is at most one plan's.
use Rattle.std.proofs.Common.{◌≡◌, ℕ, List, [], ◌∷◌, ◌++◌, Option, Some, None, refl, sym, ap, ◌∙◌}
use Rattle.std.proofs.lemmas.List.{append-nil}
use Rattle.plan_text.specs.declared.plan.Step.{Step}
use Rattle.plan_text.specs.declared.plan.Plan.{Plan}
use Rattle.plan_text.specs.declared.line.Line.{Line}
use Rattle.plan_text.specs.declared.line.Line.TheVariants as lines
use Rattle.plan_text.specs.PlanText.{PlanText}
use Rattle.plan_text.specs.Line.{words_of, text_of}
use Rattle.plan_text.specs.Draft.{barrier_list, step_list, behind_first}
use Rattle.plan_text.proofs.Listed.{lines_of, text-lines_of, text_goes_on, nonempty}
use Rattle.plan_text.proofs.Begun.{fit_plan}

lines_same : (c d : Plan) (text : List ℕ) → PlanText text c → PlanText text d → lines_of c ≡ lines_of d
lines_same c d text tc td =
    let e = append-nil (text_of (lines.First ∷ lines_of c)) ∙ text-lines_of c ∙ sym tc.spelled ∙ td.spelled ∙ sym (text-lines_of d) in
    let left = text_goes_on (lines.First ∷ lines_of c) (lines.First ∷ lines_of d) [] (fit_plan text c tc) (fit_plan text d td) e in
    go left.0 left.1 left.2
  where
    go : (tail : List Line) → lines.First ∷ lines_of d ≡ (lines.First ∷ lines_of c) ++ tail → [] ≡ text_of tail → lines_of c ≡ lines_of d
    go [] all is = let same : lines_of d ≡ lines_of c ++ [] = cc (all) in sym (same ∙ append-nil (lines_of c))
    go (l ∷ tail) all is = absurd (nonempty (words_of l) (text_of tail) (sym is))

steps_same : (ss ts : List Step) → step_list ss ++ lines.End ∷ [] ≡ step_list ts ++ lines.End ∷ [] → ss ≡ ts
steps_same [] [] e = refl
steps_same [] (t ∷ ts) e = absurd (cc (e))
steps_same (s ∷ ss) [] e = absurd (cc (e))
steps_same (s ∷ ss) (t ∷ ts) e =
    let heads : s ≡ t = cc (e) in
    let tails : step_list ss ++ lines.End ∷ [] ≡ step_list ts ++ lines.End ∷ [] = cc (e) in
    let rest = steps_same ss ts tails in cc (heads, rest)

barriers_same : (a b : Option ℕ) (ss ts : List Step) → (barrier_list a ++ step_list ss) ++ lines.End ∷ [] ≡ (barrier_list b ++ step_list ts) ++ lines.End ∷ [] → (a ≡ b) × (ss ≡ ts)
barriers_same None None ss ts e = (refl, steps_same ss ts e)
barriers_same (Some a) (Some b) ss ts e =
    let heads : a ≡ b = cc (e) in
    let tails : step_list ss ++ lines.End ∷ [] ≡ step_list ts ++ lines.End ∷ [] = cc (e) in
    (ap (λ x. Some x) heads, steps_same ss ts tails)
barriers_same None (Some b) [] ts e = absurd (cc (e))
barriers_same None (Some b) (s ∷ ss) ts e = absurd (cc (e))
barriers_same (Some a) None ss [] e = absurd (cc (e))
barriers_same (Some a) None ss (t ∷ ts) e = absurd (cc (e))

no_append : (a : ℕ) (b : Option ℕ) (ss : List Step) (more : List Line) → lines.AppendFault a ∷ more ≡ (barrier_list b ++ step_list ss) ++ lines.End ∷ [] → ⊥
no_append a None [] more e = cc (e)
no_append a None (s ∷ ss) more e = cc (e)
no_append a (Some b) ss more e = cc (e)

parts_same : (a b c d : Option ℕ) (ss ts : List Step) → behind_first a c ss ++ lines.End ∷ [] ≡ behind_first b d ts ++ lines.End ∷ [] → (a ≡ b) × (c ≡ d) × (ss ≡ ts)
parts_same None None c d ss ts e =
    let rest = barriers_same c d ss ts e in (refl, rest.0, rest.1)
parts_same (Some a) (Some b) c d ss ts e =
    let heads : a ≡ b = cc (e) in
    let tails : (barrier_list c ++ step_list ss) ++ lines.End ∷ [] ≡ (barrier_list d ++ step_list ts) ++ lines.End ∷ [] = cc (e) in
    let rest = barriers_same c d ss ts tails in (ap (λ x. Some x) heads, rest.0, rest.1)
parts_same None (Some b) c d ss ts e = absurd (no_append b c ss ((barrier_list d ++ step_list ts) ++ lines.End ∷ []) (sym e))
parts_same (Some a) None c d ss ts e = absurd (no_append a d ts ((barrier_list c ++ step_list ss) ++ lines.End ∷ []) e)

pub plan_same : (c d : Plan) (text : List ℕ) → PlanText text c → PlanText text d → c ≡ d
plan_same c d text tc td =
    let parts = parts_same c.append_fault d.append_fault c.barrier_fault d.barrier_fault c.steps d.steps (lines_same c d text tc td) in
    let same : record { append_fault = c.append_fault; barrier_fault = c.barrier_fault; steps = c.steps } ≡ record { append_fault = d.append_fault; barrier_fault = d.barrier_fault; steps = d.steps } = cc (parts.0, parts.1, parts.2) in same
