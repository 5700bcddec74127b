-- The bad line, at each place where the reader stops.
use Rattle.std.proofs.Common.{◌≡◌, ℕ, ◌+◌, Bool, false, List, [], ◌∷◌, ◌++◌, length, Option, None, refl, sym, ap, ◌∙◌, arith, codes, append_assoc, subst, length-append}
use Rattle.std.proofs.lemmas.List.{append-nil}
use Rattle.plan_text.specs.declared.plan.Step.{Step}
use Rattle.plan_text.specs.declared.plan.Step.TheVariants.{Lane, Go, Crash}
use Rattle.plan_text.specs.declared.plan.Plan.{Plan}
use Rattle.plan_text.specs.declared.line.Line.{Line}
use Rattle.plan_text.specs.declared.line.Line.TheVariants as lines
use Rattle.plan_text.specs.PlanText.{PlanText, line, spelling}
use Rattle.text_words.specs.Words.{Lacks}
use Rattle.plan_text.specs.BadLine.{Begins, IsBadLine}
use Rattle.plan_text.specs.Line.{IsFit, IsLine, Follows, NotEnd, last_of, words_of, text_of}
use Rattle.plan_text.specs.Draft.{behind_first, IsBegun, MayFollow}
use Rattle.text_words.proofs.Cuts.{split_same, no_split}
use Rattle.plan_text.proofs.Said.{no_feed}
use Rattle.plan_text.proofs.Listed.{AreFit, plan_of, lines_of, text-lines_of, text-append, cut_line, all_append}
use Rattle.plan_text.proofs.Order.{last-append, last-lines_of, follows_last}
use Rattle.plan_text.proofs.Planned.{begun_begins, ended_whole}
use Rattle.plan_text.proofs.Begun.{in_order, lines_left, next_follows, bad_line_at}

as_cut : (words more : List ℕ) → line words ++ more ≡ words ++ 10 ∷ more
as_cut words more = append_assoc words (10 ∷ []) more

line_once : (rest words after other more : List ℕ) → rest ≡ words ++ 10 ∷ after → Lacks 10 words → rest ≡ line other ++ more → Lacks 10 other → words ≡ other
line_once rest words after other more e lacks is none =
    (split_same 10 words other after more lacks none (sym e ∙ is ∙ as_cut other more)).0

no_line : (rest words more : List ℕ) → Lacks 10 rest → rest ≡ line words ++ more → ⊥
no_line rest words more lacks e = no_split 10 rest words more lacks (e ∙ as_cut words more)

-- the first line
pub nothing_begun : IsBegun [] 1 false
nothing_begun = record {
  fit = tt;
  ordered = tt;
  goes_on = tt;
  waits = refl;
  counted = refl;
  room = omega arith;
}

first_line : (plan : Plan) → spelling plan ≡ line (codes "plan 1") ++ text_of (lines_of plan)
first_line plan = sym (text-lines_of plan)

begins_with_first : (words rest : List ℕ) (plan : Plan) → Lacks 10 words → PlanText (line words ++ rest) plan → words ≡ codes "plan 1"
begins_with_first words rest plan lacks text =
    (cut_line words (codes "plan 1") rest (text_of (lines_of plan)) lacks (no_feed lines.First tt) (text.spelled ∙ first_line plan)).0

empty_begins : Begins []
empty_begins =
    let whole = ended_whole None None [] 1 nothing_begun in record {
      plan = plan_of None None [];
      rest = text_of (lines.First ∷ lines.End ∷ []);
      whole = whole;
    }

pub no_first : (text : List ℕ) → ((rest : List ℕ) → text ≡ line (codes "plan 1") ++ rest → ⊥) → IsBadLine text 1
no_first text other =
    bad_line_at text text [] tt refl empty_begins
    (λ words more e none b. other more (e ∙ ap (λ w. line w ++ more) (begins_with_first words b.rest b.plan none b.whole)))
    (λ plan whole. other (text_of (lines_of plan)) (whole.spelled ∙ first_line plan))

not_whole : (rest : List ℕ) (done : List Line) (plan : Plan) → Lacks 10 rest → NotEnd (last_of lines.First done) → AreFit done → PlanText (text_of (lines.First ∷ done) ++ rest) plan → ⊥
not_whole rest done plan lacks goes are whole =
    let left = lines_left done rest plan are whole in go left.0 left.1 left.2
  where
    go : (tail : List Line) → lines_of plan ≡ done ++ tail → rest ≡ text_of tail → ⊥
    go [] all is =
        let same : last_of lines.First done ≡ lines.End = ap (last_of lines.First) (sym (all ∙ append-nil done)) ∙ last-lines_of plan in
        subst NotEnd same goes
    go (l ∷ tail) all is = no_line rest (words_of l) (text_of tail) lacks is

-- where no line is left
pub missing : (text rest : List ℕ) (append barrier : Option ℕ) (steps : List Step) (count : ℕ) (waiting : Bool) → IsBegun (behind_first append barrier steps) count waiting → text ≡ text_of (lines.First ∷ behind_first append barrier steps) ++ rest → Lacks 10 rest → IsBadLine text (count + 1)
missing text rest append barrier steps count waiting begun split lacks =
    let done = behind_first append barrier steps in
    let more : length (lines.First ∷ done) + 1 ≡ count + 1 = omega (arith, begun.counted) in
    subst (IsBadLine text) more
    (bad_line_at text rest (lines.First ∷ done) (tt, begun.fit) split (begun_begins append barrier steps count waiting begun) (λ words more e none b. no_line rest words more lacks e)
    (λ plan whole. not_whole rest done plan lacks begun.goes_on begun.fit (subst (λ (t : List ℕ). PlanText t plan) split whole)))

-- where the next line may not stand
pub refused : (text rest words after : List ℕ) (append barrier : Option ℕ) (steps : List Step) (count : ℕ) (waiting : Bool) → IsBegun (behind_first append barrier steps) count waiting → text ≡ text_of (lines.First ∷ behind_first append barrier steps) ++ rest → rest ≡ words ++ 10 ∷ after → Lacks 10 words → ((l : Line) → IsLine words l → MayFollow (behind_first append barrier steps) l → ⊥) → IsBadLine text (count + 1)
refused text rest words after append barrier steps count waiting begun split cut lacks stops =
    let done = behind_first append barrier steps in
    let more : length (lines.First ∷ done) + 1 ≡ count + 1 = omega (arith, begun.counted) in
    let no_text : (other behind : List ℕ) (plan : Plan) → words ≡ other → PlanText (text_of (lines.First ∷ done) ++ (line other ++ behind)) plan → ⊥ =
    λ other behind plan same whole.
    let next = next_follows done words behind plan begun.fit lacks (subst (λ (w : List ℕ). PlanText (text_of (lines.First ∷ done) ++ (line w ++ behind)) plan) (sym same) whole) in
    stops next.0 next.1 next.2 in
    subst (IsBadLine text) more
    (bad_line_at text rest (lines.First ∷ done) (tt, begun.fit) split (begun_begins append barrier steps count waiting begun)
    (λ other more e none b. no_text other b.rest b.plan (line_once rest words after other more cut lacks e none) (subst (λ (t : List ℕ). PlanText t b.plan) (append_assoc (text_of (lines.First ∷ done)) (line other) b.rest) b.whole))
    (λ plan whole. no_text words after plan refl (subst (λ (t : List ℕ). PlanText t plan) (split ∙ ap (λ r. text_of (lines.First ∷ done) ++ r) (cut ∙ sym (as_cut words after))) whole)))

-- behind the last line
nothing_follows : (l : Line) → Follows lines.End l → ⊥
nothing_follows lines.First f = f
nothing_follows (lines.AppendFault a) f = f
nothing_follows (lines.BarrierFault b) f = f
nothing_follows (lines.Step step) f = no_step step f
  where
    no_step : (step : Step) → Follows lines.End (lines.Step step) → ⊥
    no_step (Lane s) f = f
    no_step Go f = f
    no_step (Crash k) f = f.0
nothing_follows lines.End f = f.0

nothing_behind : (draft : List Line) (l : Line) → Follows (last_of lines.First (draft ++ lines.End ∷ [])) l → ⊥
nothing_behind draft l follows =
    nothing_follows l (subst (λ (last : Line). Follows last l) (last-append lines.First draft (lines.End ∷ [])) follows)

nothing_left : (text : List ℕ) (draft : List Line) (after : List ℕ) (plan : Plan) → PlanText text plan → (after ≡ [] → ⊥) → (tail : List Line) → lines_of plan ≡ (draft ++ lines.End ∷ []) ++ tail → after ≡ text_of tail → ⊥
nothing_left text draft after plan whole more [] all is = more is
nothing_left text draft after plan whole more (l ∷ tail) all is =
    nothing_behind draft l (follows_last lines.First l (draft ++ lines.End ∷ []) tail (rw all at (in_order text plan whole)))

pub behind_end : (text rest words after : List ℕ) (append barrier : Option ℕ) (steps : List Step) (count : ℕ) → IsBegun (behind_first append barrier steps) count false → text ≡ text_of (lines.First ∷ behind_first append barrier steps) ++ rest → rest ≡ words ++ 10 ∷ after → words ≡ codes "end" → (after ≡ [] → ⊥) → IsBadLine text (count + 1 + 1)
behind_end text rest words after append barrier steps count begun e cut ends more =
    let draft = behind_first append barrier steps in
    let done = draft ++ lines.End ∷ [] in
    let are : AreFit done = all_append IsFit draft (lines.End ∷ []) begun.fit (tt, tt) in
    let whole_text : text_of (lines.First ∷ done) ≡ text_of (lines.First ∷ draft) ++ line (codes "end") = text-append (lines.First ∷ draft) (lines.End ∷ []) in
    let after_end : rest ≡ line (codes "end") ++ after = cut ∙ ap (λ w. w ++ 10 ∷ after) ends in
    let split : text ≡ text_of (lines.First ∷ done) ++ after =
    e ∙ ap (λ r. text_of (lines.First ∷ draft) ++ r) after_end ∙ sym (append_assoc (text_of (lines.First ∷ draft)) (line (codes "end")) after) ∙ ap (λ t. t ++ after) (sym whole_text) in
    let begins : Begins (text_of (lines.First ∷ done)) = record {
      plan = plan_of append barrier steps;
      rest = [];
      whole = subst (λ (t : List ℕ). PlanText t (plan_of append barrier steps)) (sym (append-nil (text_of (lines.First ∷ done)))) (ended_whole append barrier steps count begun);
    } in
    let length_is : length (lines.First ∷ done) + 1 ≡ count + 1 + 1 = omega (arith, length-append draft (lines.End ∷ []), begun.counted) in
    subst (IsBadLine text) length_is
    (bad_line_at text after (lines.First ∷ done) (tt, are) split begins
    (λ other behind is none b. let next = next_follows done other b.rest b.plan are none (subst (λ (t : List ℕ). PlanText t b.plan) (append_assoc (text_of (lines.First ∷ done)) (line other) b.rest) b.whole) in
    nothing_behind draft next.0 next.2.0)
    (λ plan whole. let left = lines_left done after plan are (subst (λ (t : List ℕ). PlanText t plan) split whole) in
    nothing_left text draft after plan whole more left.0 left.1 left.2))
