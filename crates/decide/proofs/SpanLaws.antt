-- the spans that are made are those of the history's calls and crashes
use Rattle.std.proofs.Common.{◌≡◌, ◌⊎◌, inl, inr, ℕ, zero, suc, ◌+◌, ◌<◌, ◌≤◌, Bool, true, false, cond, List, [], ◌∷◌, length, Some, Contains, get_or, refl, sym, ap, ◌∙◌, subst, arith}
use Rattle.std.specs.Prelude.{slice_get}
use Rattle.std.proofs.lemmas.List.Elements.{Contains-append_left, Contains-append_right, Contains-append_cases}
use Rattle.history_file.specs.Event.{Event}
use Rattle.history_file.specs.Event.Event.{call, reply, close, crash}
use Rattle.nfs_history.specs.declared.recorded.RecordedCall.{RecordedCall}
use Rattle.nfs_history.specs.declared.knowing.KnownCalls.{KnownCalls}
use Rattle.nfs_history.specs.Precedence.{call_at}
use Rattle.decision_core.specs.declared.spans.Span.{Span}
use Rattle.decision_core.specs.Spanned.{AreSpansOf}
use Rattle.decision_walk.specs.decision_law_specs.Spans.{IsOfCall, IsOfCrash, AreSpans}
use Rattle.decision_walk.specs.decision_law_specs.Times.{AreTimed, crash_at, era_start, may_stand, times_of}
use Rattle.decision_walk.proofs.decision_law_laws.Told.{spans_tell}
use Rattle.decide.specs.Spanning.{crash_list, call_span, crash_span, call_spans, crash_spans, all_spans}

-- ---- lists

contains_head : {X : Type 0} (x : X) (xs : List X) → Contains (x ∷ xs) x
contains_head x xs = (0, omega arith, refl)

contains_tail : {X : Type 0} (y : X) (xs : List X) (x : X) → Contains xs x → Contains (y ∷ xs) x
contains_tail y xs x there = Contains-append_right (y ∷ []) xs x there

contains_one : {X : Type 0} (y x : X) → Contains (y ∷ []) x → y ≡ x
contains_one {X} y x there = go there.0 there.1 there.2 where
  go : (k : ℕ) → k < 1 → get_or (y ∷ []) k x ≡ x → y ≡ x
  go zero inside is = is
  go (suc k) inside is = absurd (omega (arith, inside))

contains_cases : {X : Type 0} (y : X) (xs : List X) (x : X) → Contains (y ∷ xs) x → (y ≡ x) ⊎ Contains xs x
contains_cases y xs x there = elim (Contains-append_cases (y ∷ []) xs x there) [ inl here ↦ inl (contains_one y x here) | inr later ↦ inr later ]

contains_none : {X : Type 0} (x : X) → Contains [] x → ⊥
contains_none x there = omega (arith, there.1)

some_is : {X : Type 0} (a b : X) → Some a ≡ Some b → a ≡ b
some_is a b e = cc

-- ---- calls

in_calls : (first : ℕ) (calls : List RecordedCall) (n : ℕ) (recorded : RecordedCall) → slice_get calls n ≡ Some recorded → may_stand recorded ≡ true → Contains (call_spans first calls) (call_span (first + n) recorded)
in_calls first [] n recorded e may = absurd (cc)
in_calls first (r ∷ calls) zero recorded e may =
    let same : r ≡ recorded = some_is r recorded e in
    let here : may_stand r ≡ true = ap may_stand same ∙ may in
    let number : first ≡ first + 0 = omega arith in
    subst (λ n. Contains (cond (may_stand r) (call_span first r ∷ call_spans (first + 1) calls) (call_spans (first + 1) calls)) (call_span n recorded)) number
    (subst (λ (b : Bool). Contains (cond b (call_span first r ∷ call_spans (first + 1) calls) (call_spans (first + 1) calls)) (call_span first recorded)) (sym here)
    (subst (λ c. Contains (call_span first r ∷ call_spans (first + 1) calls) (call_span first c)) same (contains_head (call_span first r) (call_spans (first + 1) calls))))
in_calls first (r ∷ calls) (suc n) recorded e may =
    let number : first + 1 + n ≡ first + suc n = omega arith in
    go (may_stand r) (subst (λ k. Contains (call_spans (first + 1) calls) (call_span k recorded)) number (in_calls (first + 1) calls n recorded e may)) where
      go : (b : Bool) → Contains (call_spans (first + 1) calls) (call_span (first + suc n) recorded)
          → Contains (cond b (call_span first r ∷ call_spans (first + 1) calls) (call_spans (first + 1) calls)) (call_span (first + suc n) recorded)
      go true there = contains_tail (call_span first r) (call_spans (first + 1) calls) (call_span (first + suc n) recorded) there
      go false there = there

-- a span of calls is that of one
record IsOne (first : ℕ) (calls : List RecordedCall) (span : Span) : Type 0 where
  n : ℕ
  recorded : RecordedCall
  at : slice_get calls n ≡ Some recorded
  may : may_stand recorded ≡ true
  is : span ≡ call_span (first + n) recorded

one_later : (first : ℕ) (r : RecordedCall) (calls : List RecordedCall) (span : Span) → IsOne (first + 1) calls span → IsOne first (r ∷ calls) span
one_later first r calls span one =
    let number : first + 1 + one.n ≡ first + suc one.n = omega arith in
    record { n = suc one.n; recorded = one.recorded; at = one.at; may = one.may; is = one.is ∙ ap (λ k. call_span k one.recorded) number }

one_here : (first : ℕ) (r : RecordedCall) (calls : List RecordedCall) (span : Span) → may_stand r ≡ true → call_span first r ≡ span → IsOne first (r ∷ calls) span
one_here first r calls span may here =
    let number : first ≡ first + 0 = omega arith in
    record { n = 0; recorded = r; at = refl; may = may; is = sym here ∙ ap (λ k. call_span k r) number }

one_of : (first : ℕ) (r : RecordedCall) (calls : List RecordedCall) (span : Span) → (Contains (call_spans (first + 1) calls) span → IsOne (first + 1) calls span)
    → Contains (call_spans first (r ∷ calls)) span → IsOne first (r ∷ calls) span
one_of first r calls span rest there = go (may_stand r) refl there where
  go : (b : Bool) → may_stand r ≡ b → Contains (cond b (call_span first r ∷ call_spans (first + 1) calls) (call_spans (first + 1) calls)) span → IsOne first (r ∷ calls) span
  go false may there = one_later first r calls span (rest there)
  go true may there = elim (contains_cases (call_span first r) (call_spans (first + 1) calls) span there) [
    | inl here ↦ one_here first r calls span may here
    | inr behind ↦ one_later first r calls span (rest behind)
  ]

only_calls : (first : ℕ) (calls : List RecordedCall) (span : Span) → Contains (call_spans first calls) span → IsOne first calls span
only_calls first [] span there = absurd (contains_none span there)
only_calls first (r ∷ calls) span there = one_of first r calls span (only_calls (first + 1) calls span) there

-- ---- crashes

in_crashes : (first : ℕ) (marks : List ℕ) (k : ℕ) → k < length marks → Contains (crash_spans first marks) (crash_span (first + k) (get_or marks k 0))
in_crashes first [] k inside = absurd (omega (arith, inside))
in_crashes first (m ∷ marks) zero inside =
    let number : first ≡ first + 0 = omega arith in
    subst (λ n. Contains (crash_span first m ∷ crash_spans (first + 1) marks) (crash_span n m)) number (contains_head (crash_span first m) (crash_spans (first + 1) marks))
in_crashes first (m ∷ marks) (suc k) inside =
    let number : first + 1 + k ≡ first + suc k = omega arith in
    contains_tail (crash_span first m) (crash_spans (first + 1) marks) (crash_span (first + suc k) (get_or marks k 0))
    (subst (λ n. Contains (crash_spans (first + 1) marks) (crash_span n (get_or marks k 0))) number (in_crashes (first + 1) marks k (omega (arith, inside))))

record IsMark (first : ℕ) (marks : List ℕ) (span : Span) : Type 0 where
  k : ℕ
  inside : k < length marks
  is : span ≡ crash_span (first + k) (get_or marks k 0)

mark_later : (first m : ℕ) (marks : List ℕ) (span : Span) → IsMark (first + 1) marks span → IsMark first (m ∷ marks) span
mark_later first m marks span mark =
    let number : first + 1 + mark.k ≡ first + suc mark.k = omega arith in
    record { k = suc mark.k; inside = omega (arith, mark.inside); is = mark.is ∙ ap (λ n. crash_span n (get_or marks mark.k 0)) number }

mark_here : (first m : ℕ) (marks : List ℕ) (span : Span) → crash_span first m ≡ span → IsMark first (m ∷ marks) span
mark_here first m marks span here =
    let number : first ≡ first + 0 = omega arith in
    record { k = 0; inside = omega arith; is = sym here ∙ ap (λ n. crash_span n m) number }

only_crashes : (first : ℕ) (marks : List ℕ) (span : Span) → Contains (crash_spans first marks) span → IsMark first marks span
only_crashes first [] span there = absurd (contains_none span there)
only_crashes first (m ∷ marks) span there = elim (contains_cases (crash_span first m) (crash_spans (first + 1) marks) span there) [
  | inl here ↦ mark_here first m marks span here
  | inr behind ↦ mark_later first m marks span (only_crashes (first + 1) marks span behind)
]

-- where a crash stands, or the events end
crash_place : (i : ℕ) (events : List Event) (k : ℕ) → k < length (crash_list i events) → get_or (crash_list i events) k 0 ≡ crash_at i k events
crash_place i [] zero inside = refl
crash_place i [] (suc k) inside = absurd (omega (arith, inside))
crash_place i (call lane message ∷ events) k inside = crash_place (i + 1) events k inside
crash_place i (reply lane message ∷ events) k inside = crash_place (i + 1) events k inside
crash_place i (close lane ∷ events) k inside = crash_place (i + 1) events k inside
crash_place i (crash ∷ events) zero inside = refl
crash_place i (crash ∷ events) (suc k) inside = crash_place (i + 1) events k (omega (arith, inside))

module _ (known : KnownCalls) (events : List Event) (marks : List ℕ) (are : marks ≡ crash_list 1 events) (many : length marks ≡ known.eras) where
  abbrev starts : ℕ → ℕ
  starts = era_start events

  -- the mark of era k + 1
  mark_is : (k : ℕ) → k < length marks → get_or marks k 0 ≡ starts (suc k + 1)
  mark_is k inside =
      let place = crash_place 1 events k (subst (λ l. k < length l) are inside) in
      let next : suc (suc k) ≡ suc k + 1 = omega arith in
      ap (λ l. get_or l k 0) are ∙ place ∙ ap starts next

  of_call : (n : ℕ) (recorded : RecordedCall) → slice_get known.calls n ≡ Some recorded → may_stand recorded ≡ true → (number : ℕ) → number ≡ suc n
      → IsOfCall known starts number recorded (call_span number recorded)
  of_call n recorded at may number is = record { stands = ap (call_at known.calls) is ∙ at; may = may; number = refl; begins = refl; ends = refl }

  of_crash : (k : ℕ) → k < length marks → IsOfCrash known starts (suc k) (crash_span (length known.calls + 1 + k) (get_or marks k 0))
  of_crash k inside = record {
    inside = (omega arith, omega (arith, inside, many));
    number = omega arith;
    begins = mark_is k inside;
    ends = ap Some (mark_is k inside);
  }

  pub are_spans : AreSpans known starts (all_spans known marks)
  are_spans = record { calls = calls; crashes = crashes; only = only } where
    calls : (n : ℕ) (recorded : RecordedCall) → call_at known.calls n ≡ Some recorded → may_stand recorded ≡ true → (span : Span) × Contains (all_spans known marks) span × IsOfCall known starts n recorded span
    calls zero recorded e may = absurd (cc)
    calls (suc n) recorded e may =
        let number : 1 + n ≡ suc n = omega arith in (
          call_span (1 + n) recorded,
          Contains-append_left (call_spans 1 known.calls) (crash_spans (length known.calls + 1) marks) (call_span (1 + n) recorded) (in_calls 1 known.calls n recorded e may),
          subst (λ k. IsOfCall known starts k recorded (call_span (1 + n) recorded)) number (of_call n recorded e may (1 + n) number),
        )

    crashes : (e : ℕ) → 1 ≤ e → e ≤ known.eras → (span : Span) × Contains (all_spans known marks) span × IsOfCrash known starts e span
    crashes zero low high = absurd (omega (arith, low))
    crashes (suc k) low high =
        let inside : k < length marks = omega (arith, high, many) in (
          crash_span (length known.calls + 1 + k) (get_or marks k 0),
          Contains-append_right (call_spans 1 known.calls) (crash_spans (length known.calls + 1) marks) (crash_span (length known.calls + 1 + k) (get_or marks k 0)) (in_crashes (length known.calls + 1) marks k inside),
          of_crash k inside,
        )

    only : (span : Span) → Contains (all_spans known marks) span → ((n : ℕ) × (recorded : RecordedCall) × IsOfCall known starts n recorded span) ⊎ ((e : ℕ) × IsOfCrash known starts e span)
    only span there = elim (Contains-append_cases (call_spans 1 known.calls) (crash_spans (length known.calls + 1) marks) span there) [
      | inl here ↦ inl (of_one (only_calls 1 known.calls span here))
      | inr behind ↦ inr (of_mark (only_crashes (length known.calls + 1) marks span behind))
    ] where
      of_one : IsOne 1 known.calls span → (n : ℕ) × (recorded : RecordedCall) × IsOfCall known starts n recorded span
      of_one one =
          let number : 1 + one.n ≡ suc one.n = omega arith in
          (1 + one.n, one.recorded, subst (λ s. IsOfCall known starts (1 + one.n) one.recorded s) (sym one.is) (of_call one.n one.recorded one.at one.may (1 + one.n) number))

      of_mark : IsMark (length known.calls + 1) marks span → (e : ℕ) × IsOfCrash known starts e span
      of_mark mark = (suc mark.k, subst (λ s. IsOfCrash known starts (suc mark.k) s) (sym mark.is) (of_crash mark.k mark.inside))

  -- so they tell the history's times
  pub spans_are_of_times : AreTimed known starts → AreSpansOf (times_of known starts) (all_spans known marks)
  spans_are_of_times timed = spans_tell known starts timed (all_spans known marks) are_spans
