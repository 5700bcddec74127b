-- Each atomic step may be taken, and each run keeps the rule.
use Rattle.std.proofs.Common.{◌≡◌, ◌≢◌, ⊎_elim, ℕ, eqb, eq-eqb, ne_eqb, List, [], ◌∷◌, ◌++◌, set, get_or, cond, refl, sym, ap, ◌∙◌, subst, arith}
use Rattle.std.proofs.lemmas.Grind.{common_steps}
use Rattle.std.specs.Prelude.{slice_index, replicate}
use Rattle.std.proofs.lemmas.List.{set-get_or, get_or-set_other}
use mathlib.Core.Option.{some}
use mathlib.Core.Logic.{dite}
use native.Mathlib.Decide.{ℕ_discrete}
use lib.ListN.{get_elem?}
use prog.Atomic.{either}
use Rattle.atomic_table.specs.Table.{State, Me, keeps, Allows, Splits, Joins}
use Rattle.atomic_table.proofs.Lists.{at_set, set_again, set_else, exchanged}
use Rattle.seen_states.specs.declared.view.View.{View}
use Rattle.seen_states.specs.Seen.{word_at, fresh, together, IsSeenTable}
use Rattle.seen_states.specs.Steps.{MayLook, MayTake, looked, took, TellsLook, TellsTake, TellsCompare}
use Rattle.seen_states.specs.Runs.{Moment, opening, Step, looks, takes, splits, joins, IsRun, AreRuled}
use Rattle.seen_states.proofs.SeenLaws.{Keeps, Exchanges, new_once_here, opens, beside, joined, looked_by, look_keeps, take_wins, take_loses}

abbrev pub Ruled : ℕ → State (Unit {0}) View → Type 0
Ruled n table = IsSeenTable n table.words table.views

pub looked-claims : (fp k found : ℕ) (v : View) → (looked fp k v found).fingerprint ≡ fp
looked-claims fp k found v = looked_by (λ w. w.fingerprint ≡ fp) fp k found v (λ _. refl) (λ _ _. refl) (λ _ _. refl)

pub looked-probed : (fp k found : ℕ) (v : View) → found ≡ 0 → (looked fp k v found).probed ≡ k
looked-probed fp k found v free = looked_by (λ w. w.probed ≡ k) fp k found v (λ _. refl) (λ held _. absurd (held free)) (λ held _. absurd (held free))

pub may_look : (n slots seat : ℕ) (me : Me (Unit {0}) View) (fp k i : ℕ) → MayLook n fp k me.0 → i ≡ word_at n fp k
    → Allows (Ruled n) slots seat me i (λ found. found) (λ found after. TellsLook n fp k me found after)
may_look n slots seat me fp k i may is table rule homes at small =
    let found : ℕ = slice_index table.words i in
    let w : View = looked fp k me.0 found in
    let kept : Keeps n table.words table.views seat fp me.0 w = subst (λ j. Keeps n table.words table.views seat fp me.0 (looked fp k me.0 (slice_index table.words j))) (sym is) (look_keeps n table.words table.views seat me.0 fp k rule at may) in
    (w, keeps, tt, subst (λ ws. IsSeenTable n ws (set table.views seat w)) (sym (set-get_or table.words i 0)) kept.rule, (refl, refl, kept.told))

pub may_take : (n slots seat : ℕ) (me : Me (Unit {0}) View) (fp k i : ℕ) → MayTake n fp k me.0 → i ≡ word_at n fp k
    → Allows (Ruled n) slots seat me i (λ found. either (eqb found 0) fp found) (λ found after. TellsTake n fp k me found after)
may_take n slots seat me fp k i may is =
    subst (λ j. Allows (Ruled n) slots seat me j (λ found. either (eqb found 0) fp found) (λ found after. TellsTake n fp k me found after)) (sym is)
    (λ table rule homes at small.
    let found : ℕ = slice_index table.words (word_at n fp k) in
    let done : Exchanges n table.words table.views seat fp k me.0 (either (eqb found 0) fp found) = exchanged found 0 fp (Exchanges n table.words table.views seat fp k me.0)
    (take_wins n table.words table.views seat me.0 fp k rule at may) (take_loses n table.words table.views seat me.0 fp k rule at may) in
    (took fp k me.0 found, keeps, tt, done.rule, (refl, refl, done.won_once, done.told)))

pub may_split : (n seat : ℕ) (v : View) → Splits (Ruled n) seat v v fresh
may_split n seat v table rule at = subst (λ us. IsSeenTable n table.words (us ++ fresh ∷ [])) (sym (set_again table.views seat v at)) (beside n table.words table.views rule)

pub may_join : (n seat : ℕ) (v : View) (other : ℕ) (w : View) → Joins (Ruled n) seat v other w (together v w) fresh
may_join n seat v other w table rule at apart there =
    let both : View = together v w in
    let stood : get_elem? table.views other ≡ some w = ⊎_elim (λ (t : (other ≡ seat) × (both ≡ w)). absurd (apart t.0)) (λ (t : (other ≢ seat) × (get_elem? table.views other ≡ some w)). t.1) (at_set table.views seat other both w there) in
    joined n table.words table.views seat other v w apart at stood there rule

pub may_compare : (n slots seat : ℕ) (me : Me (Unit {0}) View) (i : ℕ) → Allows (Ruled n) slots seat me i (λ found. found) (λ found after. TellsCompare me after)
may_compare n slots seat me i table rule homes at small = (
  me.0,
  keeps,
  tt,
  subst (λ us. IsSeenTable n (set table.words i (slice_index table.words i)) us) (sym (set_again table.views seat me.0 at))
      (subst (λ ws. IsSeenTable n ws table.views) (sym (set-get_or table.words i 0)) rule),
  (refl, new_once_here n table.words table.views seat me.0 rule at),
)

-- runs

abbrev ruled : ℕ → Moment → Type 0
ruled n s = IsSeenTable n s.words s.views

opening_ruled : (n : ℕ) → ruled n (opening n)
opening_ruled n = opens n (replicate n 0) (grind (arith, common_steps)) (λ i. grind (arith, common_steps))

step_keeps : (n : ℕ) (s t : Moment) → Step n s t → ruled n s → ruled n t
step_keeps n s t (looks seat fp k v at may is) rule = subst (ruled n) (sym is) (look_keeps n s.words s.views seat v fp k rule at may).rule
step_keeps n s t (takes seat fp k v at may is) rule =
    let found = slice_index s.words (word_at n fp k) in
    let views = set s.views seat (took fp k v found) in
    subst (ruled n) (sym is)
    (dite (ℕ_discrete found 0)
    (λ free. subst (λ b. IsSeenTable n (set s.words (word_at n fp k) (cond b fp found)) views) (sym (eq-eqb found 0 free)) (take_wins n s.words s.views seat v fp k rule at may free).rule)
    (λ held. subst (λ b. IsSeenTable n (set s.words (word_at n fp k) (cond b fp found)) views) (sym (ne_eqb found 0 held)) (take_loses n s.words s.views seat v fp k rule at may held).rule))
step_keeps n s t (splits is) rule = subst (ruled n) (sym is) (beside n s.words s.views rule)
step_keeps n s t (joins seat other v w apart at there is) rule =
    subst (ruled n) (sym is) (joined n s.words s.views seat other v w apart at there (set_else s.views seat other (together v w) apart ∙ there) rule)

pub runs_keep : (n : ℕ) (s : Moment) (moments : List Moment) → ruled n s → IsRun n s moments → AreRuled n moments
runs_keep n s [] rule run = tt
runs_keep n s (t ∷ ts) rule run = let next = step_keeps n s t run.0 rule in (next, runs_keep n t ts next run.1)

pub run_keeps : (n : ℕ) (moments : List Moment) → IsRun n (opening n) moments → AreRuled n moments
run_keeps n moments run = runs_keep n (opening n) moments (opening_ruled n) run

pub words_stay : (n : ℕ) (s t : Moment) → Step n s t → (i : ℕ) → slice_index s.words i ≢ 0 → slice_index t.words i ≡ slice_index s.words i
words_stay n s t (looks seat fp k v at may is) i held = ap (λ (m : Moment). slice_index m.words i) is
words_stay n s t (takes seat fp k v at may is) i held =
    let j = word_at n fp k in
    let found = slice_index s.words j in
    let new : ℕ = cond (eqb found 0) fp found in
    let stays : get_or (set s.words j new) i 0 ≡ slice_index s.words i = dite (ℕ_discrete i j)
    (λ e.
    let kept : new ≡ found = ap (λ b. cond b fp found) (ne_eqb found 0 (λ free. held (ap (λ m. slice_index s.words m) e ∙ free))) in
    ap (λ m. get_or (set s.words j m) i 0) kept ∙ ap (λ ws. get_or ws i 0) (set-get_or s.words j 0))
    (λ apart. get_or-set_other s.words j i new 0 apart) in
    ap (λ (m : Moment). slice_index m.words i) is ∙ stays
words_stay n s t (splits is) i held = ap (λ (m : Moment). slice_index m.words i) is
words_stay n s t (joins seat other v w apart at there is) i held = ap (λ (m : Moment). slice_index m.words i) is
