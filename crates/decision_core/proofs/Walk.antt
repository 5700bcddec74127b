-- The claim by induction over events: what a completion becomes at an event, and what is covered at first.
use Rattle.std.proofs.Common.{◌≡◌, ◌≢◌, inl, inr, ℕ, ◌+◌, ◌<◌, Bool, true, false, List, [], ◌∷◌, ◌++◌, Some, refl, sym, ap, subst, ◌∙◌, arith}
use Rattle.std.proofs.lemmas.Bool.{true≢false, cases_eq, cases_lt}
use Rattle.decision_core.specs.Times.{Times, Precedes, IsAmong, IsUnanswered, IsOpen, IsAnswerOf}
use Rattle.decision_core.specs.Decide.{Leads, IsTold, IsWitness, IsCompletion, MayStandFor, Covers}
use Rattle.decision_core.proofs.Orders.{all_at, all_of_each, began_by}

-- among the parts of a list
pub among_ahead : (xs ys : List ℕ) (m : ℕ) → IsAmong xs m → IsAmong (xs ++ ys) m
among_ahead [] ys m among = absurd among
among_ahead (x ∷ xs) ys m (inl same) = inl same
among_ahead (x ∷ xs) ys m (inr among) = inr (among_ahead xs ys m among)

pub among_last : (xs : List ℕ) (n : ℕ) → IsAmong (xs ++ n ∷ []) n
among_last [] n = inl refl
among_last (x ∷ xs) n = inr (among_last xs n)

module _ {Point : Type 0} (placed : Point → ℕ → Bool) (Next : Point → ℕ → Point → Type 0) where
  -- two runs one after the other
  pub leads_joined : (point : Point) (xs ys : List ℕ) (mid last : Point) → Leads placed Next point xs mid → Leads placed Next mid ys last → Leads placed Next point (xs ++ ys) last
  leads_joined point [] ys mid last first second = subst (λ p. Leads placed Next p ys last) (sym first) second
  leads_joined point (x ∷ xs) ys mid last first second = (first.0, first.1, leads_joined first.0 xs ys mid last first.2 second)

  module _ (told : IsTold placed Next) where
    -- a placed call stays placed by a step
    still_placed : (point after : Point) (n m : ℕ) → Next point n after → placed point m ≡ true → placed after m ≡ true
    still_placed point after n m next is =
        elim (cases_eq m n) [ inl same ↦ subst (λ k. placed after k ≡ true) (sym same) (told.adds point after n next) | inr other ↦ told.keeps point after n m next other ∙ is ]

    module _ (times : Times) where
      -- a call that isn't answered by an event, nor at the next one, isn't by the next one
      one_later : (event n m : ℕ) → IsAnswerOf times (event + 1) n → m ≢ n → IsUnanswered times event m → IsUnanswered times (event + 1) m
      one_later event n m answer other unanswered at ends =
          let by = unanswered at ends in
          elim (cases_lt (event + 1) at) [
            | inl later ↦ later
            | inr not_later ↦ let same : at ≡ event + 1 = omega arith in absurd (other (answer.alone m (ends ∙ ap Some same)))
          ]

      -- at the answer of a placed call a completion stays one
      pub completion_stays : (event n : ℕ) (point : Point) (order : List ℕ) → IsAnswerOf times (event + 1) n → placed point n ≡ true
          → IsCompletion placed Next times event point order → IsCompletion placed Next times (event + 1) point order
      completion_stays event n point order answer is c = record {
        calls = c.calls;
        once = c.once;
        respects = c.respects;
        unplaced = c.unplaced;
        unanswered = all_of_each (IsUnanswered times (event + 1)) order (λ m among.
            one_later event n m answer
            (λ same. true≢false (sym is ∙ subst (λ k. placed point k ≡ false) same (all_at (λ k. placed point k ≡ false) order m c.unplaced among)))
            (all_at (IsUnanswered times event) order m c.unanswered among));
        complete = λ m at ends later. c.complete m at ends (omega (arith, later));
        last = c.last;
        runs = c.runs;
      }

      -- at an event without an answer too
      pub completion_passes : (event : ℕ) (point : Point) (order : List ℕ) → ((m : ℕ) → times.end_of m ≢ Some (event + 1))
          → IsCompletion placed Next times event point order → IsCompletion placed Next times (event + 1) point order
      completion_passes event point order silent c = record {
        calls = c.calls;
        once = c.once;
        respects = c.respects;
        unplaced = c.unplaced;
        unanswered = all_of_each (IsUnanswered times (event + 1)) order (λ m among at ends.
            let by = all_at (IsUnanswered times event) order m c.unanswered among at ends in
            elim (cases_lt (event + 1) at) [
              | inl later ↦ later
              | inr not_later ↦ let same : at ≡ event + 1 = omega arith in absurd (silent m (ends ∙ ap Some same))
            ]);
        complete = λ m at ends later. c.complete m at ends (omega (arith, later));
        last = c.last;
        runs = c.runs;
      }

      -- what comes behind the first call of a completion completes the point behind that call
      pub completion_on : (event : ℕ) (point : Point) (x : ℕ) (order : List ℕ) → (c : IsCompletion placed Next times event point (x ∷ order))
          → IsCompletion placed Next times event c.runs.0 order
      completion_on event point x order c = record {
        calls = c.calls.1;
        once = c.once.1;
        respects = c.respects.1;
        unplaced = all_of_each (λ m. placed c.runs.0 m ≡ false) order (λ m among.
            told.keeps point c.runs.0 x m c.runs.1 (all_at (λ k. k ≢ x) order m c.once.0 among) ∙ all_at (λ k. placed point k ≡ false) order m c.unplaced.1 among);
        unanswered = c.unanswered.1;
        complete = λ m at ends later. elim (c.complete m at ends later) [
          | inl is ↦ inl (still_placed point c.runs.0 x m c.runs.1 is)
          | inr among ↦ elim among [
            | inl same ↦ inl (subst (λ k. placed c.runs.0 k ≡ true) same (told.adds point c.runs.0 x c.runs.1))
            | inr behind ↦ inr behind
          ]
        ];
        last = c.last;
        runs = c.runs.2;
      }

      -- a call that isn't placed stands in a completion ahead of its answer
      pub must_stand : (event n : ℕ) (point : Point) (order : List ℕ) → IsAnswerOf times (event + 1) n → placed point n ≡ false
          → IsCompletion placed Next times event point order → IsAmong order n
      must_stand event n point order answer not_placed c =
          elim (c.complete n (event + 1) answer.ends (omega arith)) [ inl is ↦ absurd (true≢false (sym is ∙ not_placed)) | inr among ↦ among ]

      -- the first call of a completion is open, where it isn't the one that is answered
      pub first_open : (event n : ℕ) (point : Point) (x : ℕ) (order : List ℕ) → IsAnswerOf times (event + 1) n → placed point n ≡ false
          → IsCompletion placed Next times event point (x ∷ order) → x ≢ n → IsOpen times event x
      first_open event n point x order answer not_placed c other =
          elim (must_stand event n point (x ∷ order) answer not_placed c) [
            | inl same ↦ absurd (other same)
            | inr among ↦ record {
              known = c.calls.0;
              began = began_by times (event + 1) n x answer.ends (all_at (λ m. ¬ Precedes times m x) order n c.respects.0 among);
              unanswered = c.unanswered.0;
            }
          ]

      module _ (opening : Point) where
        -- the opening point is held at the beginning
        pub covers_first : (Held : Point → Type 0) → Held opening → ((n : ℕ) → placed opening n ≡ false) → ((n at : ℕ) → times.end_of n ≡ Some at → 0 < at) → Covers placed Next times opening 0 Held
        covers_first Held there fresh later order witness = (
          opening,
          there,
          (
            order,
            record {
              calls = witness.calls;
              once = witness.once;
              respects = witness.respects;
              unplaced = all_of_each (λ n. placed opening n ≡ false) order (λ n among. fresh n);
              unanswered = all_of_each (IsUnanswered times 0) order (λ n among at ends. later n at ends);
              complete = λ n at ends after. inr (witness.complete n at ends);
              last = witness.last;
              runs = witness.runs;
            },
          ),
        )

        -- an event that is no answer leaves what is held
        pub covers_passed : (event : ℕ) (Before After : Point → Type 0) → ((m : ℕ) → times.end_of m ≢ Some (event + 1)) → ((point : Point) → Before point → After point)
            → Covers placed Next times opening event Before → Covers placed Next times opening (event + 1) After
        covers_passed event Before After silent still covers order witness =
            let w = covers order witness in
            (w.0, still w.0 w.1, (w.2.0, completion_passes event w.0 w.2.0 silent w.2.1))

        -- nothing is held: no order is a witness
        pub none_left : (event : ℕ) (Held : Point → Type 0) → ((point : Point) → ¬ Held point) → Covers placed Next times opening event Held
            → (order : List ℕ) → ¬ IsWitness placed Next times opening order
        none_left event Held none covers order witness = let w = covers order witness in none w.0 w.1

-- a point may stand for itself, and for what one that may stand for it may stand for
module _ {Point : Type 0} (placed : Point → ℕ → Bool) (Next : Point → ℕ → Point → Type 0) where
  pub for_itself : (point : Point) → MayStandFor placed Next point point
  for_itself point = record { keeps = λ n is. is; serves = λ times event order c. (order, c) }

  pub for_another : (point other third : Point) → MayStandFor placed Next point other → MayStandFor placed Next other third → MayStandFor placed Next point third
  for_another point other third first second = record {
    keeps = λ n is. second.keeps n (first.keeps n is);
    serves = λ times event order c. let o = first.serves times event order c in second.serves times event o.0 o.1;
  }
