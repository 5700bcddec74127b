-- A plan as a list of lines, and a text as one list of lines.
use Rattle.std.proofs.Common.{◌≡◌, ℕ, ◌+◌, List, [], ◌∷◌, ◌++◌, length, Option, Some, None, IfSome, refl, sym, ap, ◌∙◌, arith, codes, append_assoc, length-append}
use Rattle.std.specs.List.{AllByRecursion, flat_map}
use Rattle.std.proofs.lemmas.Grind.{flat_map-append}
use Rattle.std.proofs.lemmas.List.{length-map}
use Rattle.plan_text.specs.declared.plan.Step.{Step}
use Rattle.plan_text.specs.declared.plan.Plan.{Plan}
use Rattle.plan_text.specs.declared.line.Line.{Line}
use Rattle.plan_text.specs.declared.line.Line.TheVariants as lines
use Rattle.plan_text.specs.PlanText.{line, spelling, step_words, fault_lines, fault_count, HasNumbers, IsFault}
use Rattle.text_words.specs.Words.{Lacks}
use Rattle.plan_text.specs.Line.{IsFit, words_of, text_of}
use Rattle.plan_text.specs.Draft.{append_list, barrier_list, step_list, behind_first}
use Rattle.text_words.proofs.Cuts.{split_same}
use Rattle.plan_text.proofs.Said.{line_same, no_feed}

abbrev pub AreFit : List Line → Type 0
AreFit ls = AllByRecursion IsFit ls

abbrev pub plan_of : Option ℕ → Option ℕ → List Step → Plan
plan_of append barrier steps = record { append_fault = append; barrier_fault = barrier; steps = steps }

-- the lines of a plan behind its first one
abbrev pub lines_of : Plan → List Line
lines_of plan = behind_first plan.append_fault plan.barrier_fault plan.steps ++ lines.End ∷ []

pub text-append : (xs ys : List Line) → text_of (xs ++ ys) ≡ text_of xs ++ text_of ys
text-append xs ys = flat_map-append (λ l. line (words_of l)) xs ys

text-steps : (steps : List Step) → text_of (step_list steps ++ lines.End ∷ []) ≡ flat_map (λ step. line (step_words step)) steps ++ line (codes "end")
text-steps [] = refl
text-steps (s ∷ steps) =
    ap (λ r. line (step_words s) ++ r) (text-steps steps)
    ∙ sym (append_assoc (line (step_words s)) (flat_map (λ step. line (step_words step)) steps) (line (codes "end")))

text-barrier : (barrier : Option ℕ) (steps : List Step) → text_of ((barrier_list barrier ++ step_list steps) ++ lines.End ∷ []) ≡ fault_lines (codes "fault barrier ") barrier ++ (flat_map (λ step. line (step_words step)) steps ++ line (codes "end"))
text-barrier None steps = text-steps steps
text-barrier (Some at) steps = ap (λ r. line (words_of (lines.BarrierFault at)) ++ r) (text-steps steps)

text-faults : (append barrier : Option ℕ) (steps : List Step) → text_of (lines_of (plan_of append barrier steps)) ≡ fault_lines (codes "fault append ") append ++ (fault_lines (codes "fault barrier ") barrier ++ (flat_map (λ step. line (step_words step)) steps ++ line (codes "end")))
text-faults None barrier steps = text-barrier barrier steps
text-faults (Some at) barrier steps = ap (λ r. line (words_of (lines.AppendFault at)) ++ r) (text-barrier barrier steps)

pub text-lines_of : (plan : Plan) → text_of (lines.First ∷ lines_of plan) ≡ spelling plan
text-lines_of plan = ap (λ r. line (codes "plan 1") ++ r) (text-faults plan.append_fault plan.barrier_fault plan.steps)

pub all_append : (P : Line → Type 0) (xs ys : List Line) → AllByRecursion P xs → AllByRecursion P ys → AllByRecursion P (xs ++ ys)
all_append P [] ys px py = py
all_append P (x ∷ xs) ys px py = (px.0, all_append P xs ys px.1 py)

fit_steps : (steps : List Step) → AllByRecursion HasNumbers steps → AreFit (step_list steps)
fit_steps [] h = tt
fit_steps (s ∷ steps) h = (h.0, fit_steps steps h.1)

fit_barrier : (barrier : Option ℕ) → IfSome barrier IsFault → AreFit (barrier_list barrier)
fit_barrier None h = tt
fit_barrier (Some at) h = (h, tt)

fit_append : (append : Option ℕ) → IfSome append IsFault → AreFit (append_list append)
fit_append None h = tt
fit_append (Some at) h = (h, tt)

pub fit_parts : (append barrier : Option ℕ) (steps : List Step) → IfSome append IsFault → IfSome barrier IsFault → AllByRecursion HasNumbers steps → AreFit (behind_first append barrier steps)
fit_parts append barrier steps a b s =
    all_append IsFit (append_list append) (barrier_list barrier ++ step_list steps) (fit_append append a)
    (all_append IsFit (barrier_list barrier) (step_list steps) (fit_barrier barrier b) (fit_steps steps s))

steps_fit : (steps : List Step) → AreFit (step_list steps) → AllByRecursion HasNumbers steps
steps_fit [] h = tt
steps_fit (s ∷ steps) h = (h.0, steps_fit steps h.1)

barrier_fit : (barrier : Option ℕ) (steps : List Step) → AreFit (barrier_list barrier ++ step_list steps) → IfSome barrier IsFault × AllByRecursion HasNumbers steps
barrier_fit None steps h = (tt, steps_fit steps h)
barrier_fit (Some at) steps h = (h.0, steps_fit steps h.1)

pub parts_fit : (append barrier : Option ℕ) (steps : List Step) → AreFit (behind_first append barrier steps) → IfSome append IsFault × IfSome barrier IsFault × AllByRecursion HasNumbers steps
parts_fit None barrier steps h =
    let rest = barrier_fit barrier steps h in (tt, rest.0, rest.1)
parts_fit (Some at) barrier steps h =
    let rest = barrier_fit barrier steps h.1 in (h.0, rest.0, rest.1)

length-append_list : (o : Option ℕ) → length (append_list o) ≡ fault_count o
length-append_list None = refl
length-append_list (Some at) = refl

length-barrier_list : (o : Option ℕ) → length (barrier_list o) ≡ fault_count o
length-barrier_list None = refl
length-barrier_list (Some at) = refl

pub length-behind_first : (append barrier : Option ℕ) (steps : List Step) → length (behind_first append barrier steps) ≡ fault_count append + fault_count barrier + length steps
length-behind_first append barrier steps =
    omega (arith, length-append (append_list append) (barrier_list barrier ++ step_list steps), length-append (barrier_list barrier) (step_list steps), length-map steps (λ step. lines.Step step), length-append_list append, length-barrier_list barrier)

-- the first lines of two texts
pub cut_line : (u v r s : List ℕ) → Lacks 10 u → Lacks 10 v → line u ++ r ≡ line v ++ s → (u ≡ v) × (r ≡ s)
cut_line u v r s lu lv e = split_same 10 u v r s lu lv (sym (append_assoc u (10 ∷ []) r) ∙ e ∙ append_assoc v (10 ∷ []) s)

pub nonempty : (u r : List ℕ) → line u ++ r ≡ [] → ⊥
nonempty [] r e = cc
nonempty (b ∷ u) r e = cc

-- a text that begins with lines of a text goes on with its other lines
pub text_goes_on : (ls ms : List Line) (rest : List ℕ) → AreFit ls → AreFit ms → text_of ls ++ rest ≡ text_of ms → (tail : List Line) × (ms ≡ ls ++ tail) × (rest ≡ text_of tail) × AreFit tail
text_goes_on [] ms rest hl hm e = (ms, refl, e, hm)
text_goes_on (l ∷ ls) [] rest hl hm e = absurd (nonempty (words_of l) (text_of ls ++ rest) (sym (append_assoc (line (words_of l)) (text_of ls) rest) ∙ e))
text_goes_on (l ∷ ls) (m ∷ ms) rest hl hm e =
    let first = cut_line (words_of l) (words_of m) (text_of ls ++ rest) (text_of ms) (no_feed l hl.0) (no_feed m hm.0) (sym (append_assoc (line (words_of l)) (text_of ls) rest) ∙ e) in
    let same : l ≡ m = line_same l m hl.0 hm.0 first.0 in
    let tail = text_goes_on ls ms rest hl.1 hm.1 first.1 in
    (tail.0, cc (same, tail.1), tail.2, tail.3)
