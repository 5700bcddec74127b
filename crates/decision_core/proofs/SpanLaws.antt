-- Events that are put to their places are those of their calls.
use Rattle.std.proofs.Common.{◌≡◌, ◌≢◌, ◌⊎◌, inl, inr, ℕ, zero, suc, ◌+◌, ◌<◌, ◌≤◌, IsTrue, List, [], ◌∷◌, ◌++◌, length, take, get_or, replicate, Option, Some, None, Contains, refl, sym, ap, subst, ◌∙◌, arith}
use Rattle.std.specs.List.{AllByRecursion}
use Rattle.std.proofs.Math.ListN.{length-set}
use Rattle.std.proofs.lemmas.Bool.{cases_eq}
use Rattle.std.proofs.lemmas.List.{get_or_default, get_or-set_same, get_or-set_other, take_more, take_all}
use Rattle.std.proofs.lemmas.List.Elements.{Contains-append_left, Contains-append_right}
use Rattle.decision_core.specs.declared.deciding.Event.{Event}
use Rattle.decision_core.specs.declared.deciding.Event.TheVariants.{Called, Answered, AtOnce, Passed}
use Rattle.decision_core.specs.declared.spans.Span.{Span}
use Rattle.decision_core.specs.Times.{Times, IsUnanswered}
use Rattle.decision_core.specs.Events.{StandsAt, Tells}
use Rattle.decision_core.specs.Spanned.{IsPut, BeginsThere, EndsThere, IsOfSpan, AddsSpan, AreSpansOf, AreTold}
use Rattle.decision_core.proofs.Sets.{all_push, all_weaker, first_or_rest}

-- ---- one event more

module _ (at : ℕ) (event : Event) (old new : List Event) (put : IsPut at event old new) where
  as_long : length new ≡ length old
  as_long = ap length put.is_set ∙ length-set old put.index event

  pub put_there : StandsAt new put.index event
  put_there = (
    subst (λ k. put.index < k) (sym as_long) put.inside,
    ap (λ l. get_or l put.index event) put.is_set ∙ get_or-set_same old put.index event event put.inside,
  )

  elsewhere : (k : ℕ) (x : Event) → k ≢ put.index → get_or new k x ≡ get_or old k x
  elsewhere k x other = ap (λ l. get_or l k x) put.is_set ∙ get_or-set_other old put.index k event x other

  pub put_keeps : (k : ℕ) (x : Event) → x ≢ Passed → StandsAt old k x → StandsAt new k x
  put_keeps k x some stood = elim (cases_eq k put.index) [
    | inr other ↦ (subst (λ j. k < j) (sym as_long) stood.0, elsewhere k x other ∙ stood.1)
    | inl same ↦ absurd (some (sym stood.1 ∙ get_or_default old k x Passed stood.0 ∙ ap (λ j. get_or old j Passed) same ∙ put.was_free))
  ]

  pub put_only : (k : ℕ) (x : Event) → StandsAt new k x → StandsAt old k x ⊎ ((k ≡ put.index) × (x ≡ event))
  put_only k x stands = elim (cases_eq k put.index) [
    | inr other ↦ inl (subst (λ j. k < j) as_long stands.0, sym (elsewhere k x other) ∙ stands.1)
    | inl same ↦ inr (same, sym stands.1 ∙ get_or_default new k x event stands.0 ∙ ap (λ j. get_or new j event) same ∙ put_there.1)
  ]

-- ---- one call more

some_is : {x y : ℕ} → Some x ≡ Some y → x ≡ y
some_is is = cc

-- one that is sent and answered at once
pub adds_at_once : (number begin at : ℕ) (old new : List Event) → at ≡ begin → IsPut begin (AtOnce number) old new → AddsSpan number begin (Some at) old new
adds_at_once number begin at old new same put = record {
  keeps = put_keeps begin (AtOnce number) old new put;
  begins = (put.index, put.is_at, inr (put_there begin (AtOnce number) old new put));
  ends = λ e is. (put.index, sym (some_is is) ∙ same ∙ put.is_at, inr (put_there begin (AtOnce number) old new put));
  only = λ k x stands. elim (put_only begin (AtOnce number) old new put k x stands) [
    | inl stood ↦ inl stood
    | inr it ↦ inr (inr (inr (it.1, ap Some (same ∙ put.is_at ∙ ap (λ j. j + 1) (sym it.0)))))
  ];
}

-- one without an answer
pub adds_open : (number begin : ℕ) (old new : List Event) → IsPut begin (Called number) old new → AddsSpan number begin None old new
adds_open number begin old new put = record {
  keeps = put_keeps begin (Called number) old new put;
  begins = (put.index, put.is_at, inl (put_there begin (Called number) old new put));
  ends = λ e is. absurd cc;
  only = λ k x stands. elim (put_only begin (Called number) old new put k x stands) [
    | inl stood ↦ inl stood
    | inr it ↦ inr (inl (it.1, put.is_at ∙ ap (λ j. j + 1) (sym it.0), (λ is. absurd cc)))
  ];
}

-- one with an answer
pub adds_answered : (number begin at : ℕ) (old middle new : List Event) → at ≢ begin → IsPut begin (Called number) old middle → IsPut at (Answered number) middle new → AddsSpan number begin (Some at) old new
adds_answered number begin at old middle new other first second = record {
  keeps = λ k x some stood. put_keeps at (Answered number) middle new second k x some (put_keeps begin (Called number) old middle first k x some stood);
  begins = (first.index, first.is_at, inl (put_keeps at (Answered number) middle new second first.index (Called number) (λ is. absurd cc) (put_there begin (Called number) old middle first)));
  ends = λ e is. (second.index, sym (some_is is) ∙ second.is_at, inl (put_there at (Answered number) middle new second));
  only = λ k x stands. elim (put_only at (Answered number) middle new second k x stands) [
    | inr it ↦ inr (inr (inl (it.1, ap Some (second.is_at ∙ ap (λ j. j + 1) (sym it.0)))))
    | inl stood ↦ elim (put_only begin (Called number) old middle first k x stood) [
      | inl before ↦ inl before
      | inr it ↦ inr (inl (it.1, first.is_at ∙ ap (λ j. j + 1) (sym it.0), (λ is. other (some_is is))))
    ]
  ];
}

-- ---- all of them

-- at first nothing stands anywhere
pub told_none : (count : ℕ) (events : List Event) → events ≡ replicate count Passed → AreTold [] events
told_none count events is = record {
  told = tt;
  only = λ k x stands. inl (sym stands.1 ∙ get_or_default events k x Passed stands.0 ∙ ap (λ l. get_or l k Passed) is ∙ passed count k);
} where
  passed : (n j : ℕ) → get_or (replicate n Passed) j Passed ≡ Passed
  passed zero j = refl
  passed (suc n) zero = refl
  passed (suc n) (suc j) = passed n j

stays_there : (span : Span) (number begin : ℕ) (end_at : Option ℕ) (old new : List Event) → AddsSpan number begin end_at old new
    → BeginsThere span.number span.begin old × EndsThere span.number span.«end» old → BeginsThere span.number span.begin new × EndsThere span.number span.«end» new
stays_there span number begin end_at old new adds (begins, ends) = (
  (
    begins.0,
    begins.1,
    elim begins.2 [
      | inl called ↦ inl (adds.keeps begins.0 (Called span.number) (λ is. absurd cc) called)
      | inr at_once ↦ inr (adds.keeps begins.0 (AtOnce span.number) (λ is. absurd cc) at_once)
    ],
  ),
  (λ at is. let e = ends at is in (
    e.0,
    e.1,
    elim e.2 [
      | inl answered ↦ inl (adds.keeps e.0 (Answered span.number) (λ same. absurd cc) answered)
      | inr at_once ↦ inr (adds.keeps e.0 (AtOnce span.number) (λ same. absurd cc) at_once)
    ],
  )),
)

contains_last : {X : Type 0} (xs : List X) (x : X) → Contains (xs ++ x ∷ []) x
contains_last xs x = Contains-append_right xs (x ∷ []) x (0, omega arith, refl)

told_last : (spans : List Span) (span : Span) (old new : List Event) → AddsSpan span.number span.begin span.«end» old new → AreTold spans old → AreTold (spans ++ span ∷ []) new
told_last spans span old new adds are = record {
  told = all_push (λ s. BeginsThere s.number s.begin new × EndsThere s.number s.«end» new) spans span
      (all_weaker (λ s. BeginsThere s.number s.begin old × EndsThere s.number s.«end» old) (λ s. BeginsThere s.number s.begin new × EndsThere s.number s.«end» new)
      (λ s told. stays_there s span.number span.begin span.«end» old new adds told) spans are.told) (adds.begins, adds.ends);
  only = λ k x stands. elim (adds.only k x stands) [
    | inr it ↦ inr (span, contains_last spans span, it)
    | inl stood ↦ elim (are.only k x stood) [
      | inl passed ↦ inl passed
      | inr (s, there, it) ↦ inr (s, Contains-append_left spans (span ∷ []) s there, it)
    ]
  ];
}

pub told_more : (spans : List Span) (i : ℕ) (d : Span) (old new : List Event) → i < length spans → AddsSpan (get_or spans i d).number (get_or spans i d).begin (get_or spans i d).«end» old new
    → AreTold (take i spans) old → AreTold (take (i + 1) spans) new
told_more spans i d old new inside adds are = subst (λ l. AreTold l new) (sym (take_more spans i d inside)) (told_last (take i spans) (get_or spans i d) old new adds are)

pub told_all : (spans : List Span) (i : ℕ) (events : List Event) → length spans ≤ i → AreTold (take i spans) events → AreTold spans events
told_all spans i events past are = subst (λ l. AreTold l events) (take_all i spans past) are

-- what holds of all holds of one
in_all : (P : Span → Type 0) (spans : List Span) (span : Span) → AllByRecursion P spans → Contains spans span → P span
in_all P [] span all there = absurd (omega (arith, there.1))
in_all P (first ∷ spans) span all there = elim (first_or_rest first spans span there) [ inl same ↦ subst P same all.0 | inr rest ↦ in_all P spans span all.1 rest ]

-- so they tell of the calls
module _ (times : Times) (spans : List Span) (events : List Event) (are : AreTold spans events) (of_times : AreSpansOf times spans) where
  begins : (n : ℕ) → IsTrue (times.is_call n) → (k : ℕ) × (times.begin_of n ≡ k + 1) × (StandsAt events k (Called n) ⊎ StandsAt events k (AtOnce n))
  begins n known =
      let s = of_times.listed n known in
      let told = in_all (λ span. BeginsThere span.number span.begin events × EndsThere span.number span.«end» events) spans s.0 are.told s.1 in
      let there : BeginsThere n s.0.begin events = subst (λ m. BeginsThere m s.0.begin events) s.2 told.0 in
      (there.0, s.3 ∙ there.1, there.2)

  ends : (n at : ℕ) → times.end_of n ≡ Some at → (k : ℕ) × (at ≡ k + 1) × (StandsAt events k (Answered n) ⊎ StandsAt events k (AtOnce n))
  ends n at is =
      let s = of_times.listed n (of_times.known n at is) in
      let told = in_all (λ span. BeginsThere span.number span.begin events × EndsThere span.number span.«end» events) spans s.0 are.told s.1 in
      subst (λ m. EndsThere m s.0.«end» events) s.2 told.1 at (sym s.4 ∙ is)

  -- which call an event is of
  called : (k n : ℕ) (number begin : ℕ) (end_at : Option ℕ) → IsOfSpan number begin end_at k (Called n) → (number ≡ n) × (begin ≡ k + 1) × (end_at ≢ Some begin)
  called k n number begin end_at (inl it) = let is : Called n ≡ Called number = it.0 in let same : number ≡ n = cc in (same, it.1, it.2)
  called k n number begin end_at (inr (inl it)) = let is : Called n ≡ Answered number = it.0 in absurd cc
  called k n number begin end_at (inr (inr it)) = let is : Called n ≡ AtOnce number = it.0 in absurd cc

  answered : (k n : ℕ) (number begin : ℕ) (end_at : Option ℕ) → IsOfSpan number begin end_at k (Answered n) → (number ≡ n) × (end_at ≡ Some (k + 1))
  answered k n number begin end_at (inl it) = let is : Answered n ≡ Called number = it.0 in absurd cc
  answered k n number begin end_at (inr (inl it)) = let is : Answered n ≡ Answered number = it.0 in let same : number ≡ n = cc in (same, it.1)
  answered k n number begin end_at (inr (inr it)) = let is : Answered n ≡ AtOnce number = it.0 in absurd cc

  at_once : (k n : ℕ) (number begin : ℕ) (end_at : Option ℕ) → IsOfSpan number begin end_at k (AtOnce n) → (number ≡ n) × (end_at ≡ Some (k + 1))
  at_once k n number begin end_at (inl it) = let is : AtOnce n ≡ Called number = it.0 in absurd cc
  at_once k n number begin end_at (inr (inl it)) = let is : AtOnce n ≡ Answered number = it.0 in absurd cc
  at_once k n number begin end_at (inr (inr it)) = let is : AtOnce n ≡ AtOnce number = it.0 in let same : number ≡ n = cc in (same, it.1)

  unanswered : (k n : ℕ) → StandsAt events k (Called n) → IsUnanswered times (k + 1) n
  unanswered k n stands at is = elim (are.only k (Called n) stands) [
    | inl passed ↦ absurd cc
    | inr (span, there, it) ↦
        let c = called k n span.number span.begin span.«end» it in
        let o = of_times.only span there in
        let begin_is : times.begin_of n ≡ span.begin = ap times.begin_of (sym c.0) ∙ o.0 in
        let end_is : span.«end» ≡ Some at = sym o.1 ∙ (ap times.end_of c.0 ∙ is) in
        let by = of_times.late n at is in
        elim (cases_eq at span.begin) [
          | inl same ↦ absurd (c.2 (end_is ∙ ap Some same))
          | inr other ↦ let begun = c.1 in omega (arith, by, begin_is, begun, other)
        ]
  ]

  answers : (k n : ℕ) → StandsAt events k (Answered n) → times.end_of n ≡ Some (k + 1)
  answers k n stands = elim (are.only k (Answered n) stands) [
    | inl passed ↦ absurd cc
    | inr (span, there, it) ↦ let a = answered k n span.number span.begin span.«end» it in ap times.end_of (sym a.0) ∙ (of_times.only span there).1 ∙ a.1
  ]

  answers_at_once : (k n : ℕ) → StandsAt events k (AtOnce n) → times.end_of n ≡ Some (k + 1)
  answers_at_once k n stands = elim (are.only k (AtOnce n) stands) [
    | inl passed ↦ absurd cc
    | inr (span, there, it) ↦ let a = at_once k n span.number span.begin span.«end» it in ap times.end_of (sym a.0) ∙ (of_times.only span there).1 ∙ a.1
  ]

  pub tells : Tells times events
  tells = record { begins = begins; ends = ends; unanswered = unanswered; answers = answers; at_once = answers_at_once }
