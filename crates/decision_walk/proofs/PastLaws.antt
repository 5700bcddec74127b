-- calls of eras that are over may count as placed
use Rattle.std.proofs.Common.{◌≡◌, ◌⊎◌, inl, inr, ℕ, zero, suc, ◌+◌, ◌<◌, ◌≤◌, leb, Bool, true, false, cond, List, [], ◌∷◌, ◌++◌, length, refl, sym, ap, ◌∙◌, subst, arith}
use Rattle.std.specs.Prelude.{◌==◌, ◌||◌, ◌-◌, not, filter}
use Rattle.std.specs.Option.{option_map_or}
use Rattle.std.proofs.lemmas.Bool.{true≢false, or_cases, or_right, cases_lt, cases_eq, eqb-true, leb-true, lt-leb, ltb-true, ltb-false}
use Rattle.nfs_history.specs.declared.recorded.RecordedCall.{RecordedCall}
use Rattle.nfs_history.specs.declared.knowing.KnownCalls.{KnownCalls}
use Rattle.nfs_history.specs.Precedence.{call_at}
use Rattle.certificate.specs.declared.plan.Certificate.{Certificate}
use Rattle.tree_nodes.specs.Tree.{Tree}
use Rattle.decision_core.specs.Times.{IsAmong}
use Rattle.decision_core.specs.Eras.{is_placed}
use Rattle.decision_core.specs.Past.{with_calls, CrashesAreOfEras, AddsPast}
use Rattle.decision_core.proofs.Past.{past_may_count, told_among}
use Rattle.decision_core.proofs.Skipping.{among_told}
use Rattle.decision_law.specs.Laws.{binds_of}
use Rattle.decision_law.specs.Machine.{Point, Changes}
use Rattle.decision_law.specs.Times.{is_of_call, era_of_number}
use Rattle.decision_walk.specs.View.{WalkView}
use Rattle.decision_walk.specs.Standing.{numbers_of, has_call, is_of_earlier, is_told, IsAt}
use Rattle.decision_walk.specs.Settling.{past_done, SettlesAt}

-- the numbers below k that pass a test
abbrev passed : (ℕ → Bool) → ℕ → List ℕ
passed test zero = []
passed test (suc k) = cond (test k) (k ∷ passed test k) (passed test k)

passed_has : (test : ℕ → Bool) (k n : ℕ) → n < k → test n ≡ true → IsAmong (passed test k) n
passed_has test zero n inside is = absurd (omega (arith, inside))
passed_has test (suc k) n inside is = elim (cases_eq k n) [
  | inl same ↦ subst (λ b. IsAmong (cond b (k ∷ passed test k) (passed test k)) n) (sym (ap test same ∙ is)) (inl same)
  | inr other ↦ later (test k) (passed_has test k n (below other) is)
] where
  below : (k ≡ n → ⊥) → n < k
  below other = elim (cases_lt n k) [ inl less ↦ less | inr more ↦ absurd (other (omega (arith, more, inside))) ]

  later : (b : Bool) → IsAmong (passed test k) n → IsAmong (cond b (k ∷ passed test k) (passed test k)) n
  later true among = inr among
  later false among = among

passed_only : (test : ℕ → Bool) (k n : ℕ) → IsAmong (passed test k) n → test n ≡ true
passed_only test zero n among = absurd among
passed_only test (suc k) n among = go (test k) refl (passed_only test k n) among where
  go : (b : Bool) → test k ≡ b → (IsAmong (passed test k) n → test n ≡ true) → IsAmong (cond b (k ∷ passed test k) (passed test k)) n → test n ≡ true
  go true is rest (inl same) = ap test (sym same) ∙ is
  go true is rest (inr later) = rest later
  go false is rest later = rest later

among_first : (xs ys : List ℕ) (n : ℕ) → IsAmong xs n → IsAmong (xs ++ ys) n
among_first [] ys n among = absurd among
among_first (x ∷ xs) ys n (inl same) = inl same
among_first (x ∷ xs) ys n (inr among) = inr (among_first xs ys n among)

among_second : (xs ys : List ℕ) (n : ℕ) → IsAmong ys n → IsAmong (xs ++ ys) n
among_second [] ys n among = among
among_second (x ∷ xs) ys n among = inr (among_second xs ys n among)

among_either : (xs ys : List ℕ) (n : ℕ) → IsAmong (xs ++ ys) n → IsAmong xs n ⊎ IsAmong ys n
among_either [] ys n among = inr among
among_either (x ∷ xs) ys n (inl same) = inl (inl same)
among_either (x ∷ xs) ys n (inr among) = elim (among_either xs ys n among) [ inl first ↦ inl (inr first) | inr second ↦ inr second ]

both_same : (a b : Bool) → (a ≡ true → b ≡ true) → (b ≡ true → a ≡ true) → a ≡ b
both_same true b first second = sym (first refl)
both_same false true first second = second refl
both_same false false first second = refl

-- what is left out of a list isn't in it, and nothing else goes
has_kept : (test : ℕ → Bool) (calls : List ℕ) (n : ℕ) → test n ≡ false → has_call calls n ≡ true → has_call (filter (λ m. not (test m)) calls) n ≡ true
has_kept test [] n kept has = absurd (true≢false (sym has))
has_kept test (m ∷ calls) n kept has = elim (or_cases (m == n) (has_call calls n) has) [
  | inl same ↦ subst (λ b. has_call (cond (not b) (m ∷ filter (λ k. not (test k)) calls) (filter (λ k. not (test k)) calls)) n ≡ true) (sym (ap test (eqb-true m n same) ∙ kept))
      (ap (λ b. b || has_call (filter (λ k. not (test k)) calls) n) same)
  | inr later ↦ go (test m) (has_kept test calls n kept later)
] where
  go : (b : Bool) → has_call (filter (λ k. not (test k)) calls) n ≡ true → has_call (cond (not b) (m ∷ filter (λ k. not (test k)) calls) (filter (λ k. not (test k)) calls)) n ≡ true
  go true has = has
  go false has = or_right (m == n) (has_call (filter (λ k. not (test k)) calls) n) has

had_kept : (test : ℕ → Bool) (calls : List ℕ) (n : ℕ) → has_call (filter (λ m. not (test m)) calls) n ≡ true → has_call calls n ≡ true
had_kept test [] n has = has
had_kept test (m ∷ calls) n has = go (test m) (had_kept test calls n) has where
  go : (b : Bool) → (has_call (filter (λ k. not (test k)) calls) n ≡ true → has_call calls n ≡ true)
      → has_call (cond (not b) (m ∷ filter (λ k. not (test k)) calls) (filter (λ k. not (test k)) calls)) n ≡ true → ((m == n) || has_call calls n) ≡ true
  go true rest has = or_right (m == n) (has_call calls n) (rest has)
  go false rest has = elim (or_cases (m == n) (has_call (filter (λ k. not (test k)) calls) n) has) [
    | inl same ↦ ap (λ b. b || has_call calls n) same
    | inr later ↦ or_right (m == n) (has_call calls n) (rest later)
  ]

module _ (known : KnownCalls) where
  -- a number of an earlier era is none past these
  inside_all : (era n : ℕ) → is_of_earlier known era n ≡ true → n < length known.calls + era
  inside_all era n is = go (is_of_call known n) refl (ltb-true (era_of_number known n) era is) where
    go : (b : Bool) → is_of_call known n ≡ b → cond b (option_map_or (λ (recorded : RecordedCall). recorded.era) (call_at known.calls n) 0) (n - length known.calls) < era → n < length known.calls + era
    go true is less = let inside = leb-true n (length known.calls) is in omega (arith, inside, less)
    go false is less = omega (arith, less)

  module _ (marks : List Bool) where
    crash_eras : CrashesAreOfEras (numbers_of known marks)
    crash_eras e late = ap (λ b. cond b (option_map_or (λ (recorded : RecordedCall). recorded.era) (call_at known.calls (length known.calls + e)) 0) (length known.calls + e - length known.calls)) (past_calls e late)
        ∙ omega arith where
          past_calls : (e : ℕ) → 1 ≤ e → leb (length known.calls + e) (length known.calls) ≡ false
          past_calls e late = lt-leb (length known.calls + e) (length known.calls) (omega (arith, late))

    -- all numbers of earlier eras, and what is placed
    abbrev all_past : Point known → List ℕ
    all_past point = passed (is_of_earlier known point.era) (length known.calls + point.era) ++ point.calls

    adds : (point : Point known) → AddsPast (numbers_of known marks) point (all_past point)
    adds point = record {
      keeps = λ m among. among_second (passed (is_of_earlier known point.era) (length known.calls + point.era)) point.calls m among;
      only = λ m among. elim (among_either (passed (is_of_earlier known point.era) (length known.calls + point.era)) point.calls m among) [
        | inl past ↦ inr (ltb-true (era_of_number known m) point.era (passed_only (is_of_earlier known point.era) (length known.calls + point.era) m past))
        | inr there ↦ inl there
      ];
    }

    at_past : (plan : Certificate) (gone : ℕ → Bool) (point : Point known) (state : WalkView) → IsAt known marks plan gone point state
        → IsAt known marks plan gone (with_calls point (all_past point)) (past_done known state)
    at_past plan gone point state at = record {
      counts = at.counts;
      binds = at.binds;
      era = at.era;
      past = omega arith;
      tree = at.tree;
      base = at.base;
      answered = at.answered;
      barred = at.barred;
      placed = λ m kept. both_same (is_told known (past_done known state) m) (is_placed (with_calls point (all_past point)) m) (there m kept) (back m kept);
    } where
      before : List ℕ
      before = passed (is_of_earlier known point.era) (length known.calls + point.era)

      there : (m : ℕ) → gone m ≡ false → is_told known (past_done known state) m ≡ true → is_placed (with_calls point (all_past point)) m ≡ true
      there m kept told = elim (or_cases (is_of_earlier known state.era m) (has_call (filter (λ n. not (is_of_earlier known state.era n)) state.placed) m) told) [
        | inl earlier ↦
            let here : is_of_earlier known point.era m ≡ true = subst (λ e. is_of_earlier known e m ≡ true) at.era earlier in
            among_told (all_past point) m (among_first (passed (is_of_earlier known point.era) (length known.calls + point.era)) point.calls m
            (passed_has (is_of_earlier known point.era) (length known.calls + point.era) m (inside_all point.era m here) here))
        | inr listed ↦
            let had = had_kept (is_of_earlier known state.era) state.placed m listed in
            among_told (all_past point) m (among_second (passed (is_of_earlier known point.era) (length known.calls + point.era)) point.calls m
            (told_among point.calls m (sym (at.placed m kept) ∙ or_right (is_of_earlier known state.past m) (has_call state.placed m) had)))
      ]

      or_left : (a b : Bool) → a ≡ true → (a || b) ≡ true
      or_left a b is = ap (λ c. c || b) is

      listed_or_earlier : (m : ℕ) (b : Bool) → is_of_earlier known state.era m ≡ b → (is_of_earlier known state.past m || has_call state.placed m) ≡ true → is_told known (past_done known state) m ≡ true
      listed_or_earlier m true is told = or_left (is_of_earlier known state.era m) (has_call (filter (λ n. not (is_of_earlier known state.era n)) state.placed) m) is
      listed_or_earlier m false is told = elim (or_cases (is_of_earlier known state.past m) (has_call state.placed m) told) [
        | inl past ↦
            let less = ltb-true (era_of_number known m) state.past past in
            let more = ltb-false (era_of_number known m) state.era is in
            let inside = at.past in absurd (omega (arith, less, more, inside))
        | inr has ↦ or_right (is_of_earlier known state.era m) (has_call (filter (λ n. not (is_of_earlier known state.era n)) state.placed) m) (has_kept (is_of_earlier known state.era) state.placed m is has)
      ]

      back : (m : ℕ) → gone m ≡ false → is_placed (with_calls point (all_past point)) m ≡ true → is_told known (past_done known state) m ≡ true
      back m kept told = elim (among_either (passed (is_of_earlier known point.era) (length known.calls + point.era)) point.calls m (told_among (all_past point) m told)) [
        | inl past ↦
            let here : is_of_earlier known state.era m ≡ true = subst (λ e. is_of_earlier known e m ≡ true) (sym at.era) (passed_only (is_of_earlier known point.era) (length known.calls + point.era) m past) in
            or_left (is_of_earlier known state.era m) (has_call (filter (λ n. not (is_of_earlier known state.era n)) state.placed) m) here
        | inr among ↦ listed_or_earlier m (is_of_earlier known state.era m) refl (at.placed m kept ∙ among_told point.calls m among)
      ]

    pub settles_past : (state : WalkView) → 1 ≤ state.era → SettlesAt known marks [] state (past_done known state)
    settles_past state late plan gone point at kept = (
      with_calls point (all_past point),
      at_past plan gone point state at,
      past_may_count Tree (Changes known (binds_of known plan)) (numbers_of known marks) crash_eras point (all_past point) (subst (λ e. 1 ≤ e) at.era late) (adds point),
    )
