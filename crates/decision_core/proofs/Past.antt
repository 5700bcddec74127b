-- calls of eras that are over may count as placed
use Rattle.std.proofs.Common.{◌≡◌, ◌≢◌, ◌⊎◌, ◌==◌, ◌||◌, inl, inr, ℕ, ◌+◌, ◌<◌, ◌≤◌, Bool, true, false, IsTrue, List, [], ◌∷◌, Option, Some, None, refl, sym, ap, subst, ◌∙◌, arith}
use Rattle.std.specs.List.{AllByRecursion, list_any}
use Rattle.std.proofs.lemmas.Bool.{true≢false, cases_eq, eq-eqb, ne_eqb, or_right}
use Rattle.decision_core.specs.Times.{IsAmong}
use Rattle.decision_core.specs.Decide.{Leads, MayStandFor}
use Rattle.decision_core.specs.Eras.{Numbering, EraState, is_placed, HasStable, EraNext}
use Rattle.decision_core.specs.Past.{with_calls, CrashesAreOfEras, AddsPast, PastMayCount}
use Rattle.decision_core.proofs.Orders.{all_at, all_of_each}
use Rattle.decision_core.proofs.Skipping.{among_told}

-- what isn't among the calls isn't told
not_told : (calls : List ℕ) (n : ℕ) → ¬ IsAmong calls n → list_any (λ m. m == n) calls ≡ false
not_told [] n other = refl
not_told (k ∷ calls) n other =
    ap (λ b. b || list_any (λ m. m == n) calls) (ne_eqb k n (λ same. other (inl same))) ∙ not_told calls n (λ among. other (inr among))

-- what is told is among them
pub told_among : (calls : List ℕ) (n : ℕ) → list_any (λ m. m == n) calls ≡ true → IsAmong calls n
told_among [] n told = absurd (true≢false (sym told))
told_among (k ∷ calls) n told = elim (cases_eq k n) [
  | inl same ↦ inl same
  | inr differs ↦ inr (told_among calls n (sym (ap (λ b. b || list_any (λ m. m == n) calls) (ne_eqb k n differs)) ∙ told))
]

module _ {Tree : Type 0} (Change : Tree → ℕ → Tree → Type 0) (by : Numbering) (crashes : CrashesAreOfEras by) where
  -- a call is placed in both
  goes_on : (point after : EraState Tree) (calls : List ℕ) (x : ℕ) → ((m : ℕ) → IsAmong point.calls m → IsAmong calls m) → EraNext Change by point x after
      → EraNext Change by (with_calls point calls) x (with_calls after (x ∷ calls))
  goes_on point after calls x keeps (inl (real, era, (tree, change, inl ahead))) = inl (real, era, (tree, change, inl (ahead.0, ap (λ a. with_calls a (x ∷ calls)) ahead.1)))
  goes_on point after calls x keeps (inl (real, era, (tree, change, inr (inl first)))) =
      inl (real, era, (tree, change, inr (inl (first.0, first.1, (λ m is same. keeps m (first.2 m is same)), ap (λ a. with_calls a (x ∷ calls)) first.3))))
  goes_on point after calls x keeps (inl (real, era, (tree, change, inr (inr (base, is_base, saves, is))))) =
      inl (real, era, (tree, change, inr (inr (base, is_base, saves, ap (λ a. with_calls a (x ∷ calls)) is))))
  goes_on point after calls x keeps (inr (crash, is)) = inr (crash, ap (λ a. with_calls a (x ∷ calls)) is)

  -- no step goes back to an era that is over
  rises : (point after : EraState Tree) (x : ℕ) → EraNext Change by point x after → point.era ≤ after.era
  rises point after x (inl (real, era, (tree, change, inl ahead))) = let same : after.era ≡ point.era = ap (λ a. a.era) ahead.1 in omega (arith, same)
  rises point after x (inl (real, era, (tree, change, inr (inl first)))) = let same : after.era ≡ point.era = ap (λ a. a.era) first.3 in omega (arith, same)
  rises point after x (inl (real, era, (tree, change, inr (inr (base, is_base, saves, is))))) = let same : after.era ≡ point.era = ap (λ a. a.era) is in omega (arith, same)
  rises point after x (inr (crash, is)) = let same : after.era ≡ point.era + 1 = ap (λ a. a.era) is in omega (arith, same)

  -- a step is one of the era
  is_of_era : (point after : EraState Tree) (x : ℕ) → 1 ≤ point.era → EraNext Change by point x after → by.era_of x ≡ point.era
  is_of_era point after x late (inl (real, era, rest)) = era
  is_of_era point after x late (inr (crash, is)) = ap by.era_of crash ∙ crashes point.era late

  all_late : (order : List ℕ) (point last : EraState Tree) (m : ℕ) → 1 ≤ point.era → Leads is_placed (EraNext Change by) point order last → IsAmong order m → point.era ≤ by.era_of m
  all_late [] point last m late run among = absurd among
  all_late (x ∷ order) point last m late run (inl same) = let e = is_of_era point run.0 x late run.1 in let s = ap by.era_of same in omega (arith, e, s)
  all_late (x ∷ order) point last m late run (inr among) =
      let up = rises point run.0 x run.1 in
      let more = all_late order run.0 last m (omega (arith, late, up)) run.2 among in
      omega (arith, up, more)

  keeps_more : (old new : List ℕ) (x : ℕ) → ((m : ℕ) → IsAmong old m → IsAmong new m) → (m : ℕ) → IsAmong (x ∷ old) m → IsAmong (x ∷ new) m
  keeps_more old new x keeps m (inl same) = inl same
  keeps_more old new x keeps m (inr among) = inr (keeps m among)

  calls_grow : (point after : EraState Tree) (x : ℕ) → EraNext Change by point x after → after.calls ≡ x ∷ point.calls
  calls_grow point after x (inl (real, era, (tree, changes, inl ahead))) = ap (λ s. s.calls) ahead.1
  calls_grow point after x (inl (real, era, (tree, changes, inr (inl first)))) = ap (λ s. s.calls) first.3
  calls_grow point after x (inl (real, era, (tree, changes, inr (inr behind)))) = ap (λ s. s.calls) behind.3
  calls_grow point after x (inr crash) = ap (λ s. s.calls) crash.1

  run_on : (order : List ℕ) (point last : EraState Tree) (calls : List ℕ) → ((m : ℕ) → IsAmong point.calls m → IsAmong calls m) → Leads is_placed (EraNext Change by) point order last
      → (l : EraState Tree) × Leads is_placed (EraNext Change by) (with_calls point calls) order l
  run_on [] point last calls keeps run = (with_calls point calls, refl)
  run_on (x ∷ order) point last calls keeps run =
      let more = run_on order run.0 last (x ∷ calls)
      (λ m among. keeps_more point.calls calls x keeps m (subst (λ l. IsAmong l m) (calls_grow point run.0 x run.1) among)) run.2 in
      (more.0, (with_calls run.0 (x ∷ calls), goes_on point run.0 calls x keeps run.1, more.1))

pub past_may_count : PastMayCount
past_may_count Tree Change by crashes point calls late adds =
    let told_too : (m : ℕ) → is_placed point m ≡ true → is_placed (with_calls point calls) m ≡ true = (λ m is. among_told calls m (adds.keeps m (told_among point.calls m is))) in
    record {
      keeps = told_too;
      serves = λ times event order c.
          let run = run_on Change by crashes order point c.last calls adds.keeps c.runs in (
            order,
            record {
              calls = c.calls;
              once = c.once;
              respects = c.respects;
              unplaced = all_of_each (λ m. is_placed (with_calls point calls) m ≡ false) order (λ m among.
                  not_told calls m (λ there. elim (adds.only m there) [
                    | inl old ↦ true≢false (sym (among_told point.calls m old) ∙ all_at (λ k. is_placed point k ≡ false) order m c.unplaced among)
                    | inr past ↦ let up = all_late Change by crashes order point c.last m late c.runs among in absurd (omega (arith, past, up))
                  ]));
              unanswered = c.unanswered;
              complete = λ m at ends later. elim (c.complete m at ends later) [ inl is ↦ inl (told_too m is) | inr among ↦ inr among ];
              last = run.0;
              runs = run.1;
            },
          );
    }
