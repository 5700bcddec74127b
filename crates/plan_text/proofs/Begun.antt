-- Texts that begin a plan's text, and the line at which they stop.
use Rattle.std.proofs.Common.{◌≡◌, ℕ, ◌+◌, ◌≤◌, List, [], ◌∷◌, ◌++◌, length, map, refl, sym, ap, ◌∙◌, arith, subst, length-append}
use Rattle.std.specs.List.{AllByRecursion, flat_map}
use Rattle.std.proofs.lemmas.List.{length-map}
use Rattle.plan_text.specs.declared.plan.Plan.{Plan}
use Rattle.plan_text.specs.declared.line.Line.{Line}
use Rattle.plan_text.specs.declared.line.Line.TheVariants as lines
use Rattle.plan_text.specs.PlanText.{PlanText, line}
use Rattle.text_words.specs.Words.{Lacks}
use Rattle.plan_text.specs.BadLine.{Begins, IsBadLine}
use Rattle.plan_text.specs.Line.{IsFit, IsLine, AreInOrder, last_of, words_of, text_of}
use Rattle.plan_text.specs.Draft.{behind_first, MayFollow}
use Rattle.plan_text.proofs.Said.{no_feed}
use Rattle.plan_text.proofs.Listed.{AreFit, lines_of, text-lines_of, fit_parts, all_append, cut_line, nonempty, text_goes_on, length-behind_first}
use Rattle.plan_text.proofs.Order.{parts_in_order, follows_last, in_order_behind, last-append, last-lines_of, enough}

pub fit_plan : (text : List ℕ) (plan : Plan) → PlanText text plan → AreFit (lines.First ∷ lines_of plan)
fit_plan text plan h = (
  tt,
  all_append IsFit (behind_first plan.append_fault plan.barrier_fault plan.steps) (lines.End ∷ []) (fit_parts plan.append_fault plan.barrier_fault plan.steps h.append_fault h.barrier_fault h.numbers) (tt, tt),
)

pub in_order : (text : List ℕ) (plan : Plan) → PlanText text plan → AreInOrder lines.First (lines_of plan)
in_order text plan h = parts_in_order plan.append_fault plan.barrier_fault plan.steps h.run

within : (text : List ℕ) (plan : Plan) → PlanText text plan → length (lines_of plan) + 1 ≤ 10000
within text plan h =
    omega (arith, h.within, length-append (behind_first plan.append_fault plan.barrier_fault plan.steps) (lines.End ∷ []), length-behind_first plan.append_fault plan.barrier_fault plan.steps)

-- the lines of a plan behind those that its text begins with
pub lines_left : (done : List Line) (rest : List ℕ) (plan : Plan) → AreFit done → PlanText (text_of (lines.First ∷ done) ++ rest) plan → (tail : List Line) × (lines_of plan ≡ done ++ tail) × (rest ≡ text_of tail) × AreFit tail
lines_left done rest plan h text =
    let left = text_goes_on (lines.First ∷ done) (lines.First ∷ lines_of plan) rest (tt, h) (fit_plan (text_of (lines.First ∷ done) ++ rest) plan text) (text.spelled ∙ sym (text-lines_of plan)) in
    (left.0, cc (left.1), left.2, left.3)

-- the next line of a plan may stand behind those ahead of it, and what has to follow it fits
pub next_follows : (done : List Line) (words rest : List ℕ) (plan : Plan) → AreFit done → Lacks 10 words → PlanText (text_of (lines.First ∷ done) ++ (line words ++ rest)) plan → (l : Line) × IsLine words l × MayFollow done l
next_follows done words rest plan h lacks text =
    let left = lines_left done (line words ++ rest) plan h text in
    next (left.0) left.1 left.2 left.3
  where
    next : (tail : List Line) → lines_of plan ≡ done ++ tail → line words ++ rest ≡ text_of tail → AreFit tail → (l : Line) × IsLine words l × MayFollow done l
    next [] all is are = absurd (nonempty words rest is)
    next (l ∷ tail) all is are =
        let first = cut_line words (words_of l) rest (text_of tail) lacks (no_feed l are.0) is in
        let ordered : AreInOrder lines.First (done ++ l ∷ tail) = rw all at (in_order (text_of (lines.First ∷ done) ++ (line words ++ rest)) plan text) in
        let last : last_of l tail ≡ lines.End = sym (last-append lines.First done (l ∷ tail)) ∙ ap (last_of lines.First) (sym all) ∙ last-lines_of plan in
        let tail_is = enough l tail (in_order_behind lines.First l done tail ordered) last in
        let long = within (text_of (lines.First ∷ done) ++ (line words ++ rest)) plan text in
        let count = ap length all ∙ length-append done (l ∷ tail) in
        (l, (first.0, are.0), (follows_last lines.First l done tail ordered, omega arith))

-- a text stops being a plan's behind lines that begin one, where what comes next may not stand there
pub bad_line_at : (text rest : List ℕ) (done : List Line) → AreFit done → text ≡ text_of done ++ rest → Begins (text_of done) → ((words more : List ℕ) → rest ≡ line words ++ more → Lacks 10 words → Begins (text_of done ++ line words) → ⊥) → ((plan : Plan) → PlanText text plan → ⊥) → IsBadLine text (length done + 1)
bad_line_at text rest done are split begins stops none = record {
  ahead = map words_of done;
  rest = rest;
  split = split ∙ ap (λ front. front ++ rest) (sym (spelled done));
  each_a_line = each done are;
  counted = ap (λ n. n + 1) (length-map done words_of);
  begins = subst Begins (sym (spelled done)) begins;
  stops = λ words more e lacks b. stops words more e lacks (subst (λ (front : List ℕ). Begins (front ++ line words)) (spelled done) b);
  none = none;
}
  where
    spelled : (ls : List Line) → flat_map line (map words_of ls) ≡ text_of ls
    spelled [] = refl
    spelled (l ∷ ls) = ap (λ r. line (words_of l) ++ r) (spelled ls)

    each : (ls : List Line) → AreFit ls → AllByRecursion (Lacks 10) (map words_of ls)
    each [] h = tt
    each (l ∷ ls) h = (no_feed l h.0, each ls h.1)
