-- One event of a list of events is a step of the walk.
use Rattle.std.proofs.Common.{◌≡◌, ◌≢◌, ◌⊎◌, ◌||◌, inl, inr, ℕ, ◌+◌, ◌<◌, ◌≤◌, nat_le, Bool, true, false, IsTrue, List, [], ◌∷◌, ◌++◌, length, get_or, Option, Some, None, Contains, refl, sym, ap, subst, ◌∙◌, arith}
use Rattle.std.specs.Option.{option_map_or}
use Rattle.std.proofs.lemmas.Bool.{cases_lt, cases_eq, eq-eqb, ne_eqb}
use Rattle.std.proofs.lemmas.List.{get_or_default}
use Rattle.decision_core.specs.declared.deciding.Event.{Event}
use Rattle.decision_core.specs.declared.deciding.Event.TheVariants.{Called, Answered, AtOnce, Passed}
use Rattle.decision_core.specs.Times.{Times, IsAmong, IsUnanswered, IsOpen}
use Rattle.decision_core.specs.Decide.{IsTold, IsCompletion, Covers, IsWitness}
use Rattle.decision_core.specs.States.{also, HasFor, Holds}
use Rattle.decision_core.specs.Layers.{IsAnswering, Completes, ExtendsAll, ForgetsAll, SettlesAll}
use Rattle.decision_core.specs.Events.{StandsAt, Tells, answered_by, AreWaiting, IsWithout, IsAnswerStep, IsEventStep, HasStateBehind}
use Rattle.decision_core.proofs.Orders.{all_of_each}
use Rattle.decision_core.proofs.Walk.{among_ahead, among_last, completion_passes, covers_first, covers_passed, none_left}
use Rattle.decision_core.proofs.Waiting.{or_last}

-- one event stands at one place
one_event : (events : List Event) (k j : ℕ) (x y : Event) → j ≡ k → StandsAt events k x → StandsAt events j y → x ≡ y
one_event events k j x y same first second =
    let there : get_or events k y ≡ y = subst (λ i. get_or events i y ≡ y) same second.1 in
    sym first.1 ∙ get_or_default events k x y first.0 ∙ there

-- what isn't answered is told so
kept_if : (event : ℕ) (o : Option ℕ) → ((at : ℕ) → o ≡ Some at → event < at) → option_map_or (λ at. nat_le at event) o false ≡ false
kept_if event None later = refl
kept_if event (Some at) later = let after = later at refl in grind (arith, after)

pub unanswered_kept : (times : Times) (event m : ℕ) → IsUnanswered times event m → answered_by times event m ≡ false
unanswered_kept times event m unanswered = kept_if event (times.end_of m) unanswered

-- at an event that doesn't answer a call it is answered as before
same_if : (event : ℕ) (o : Option ℕ) → o ≢ Some (event + 1) → option_map_or (λ at. nat_le at (event + 1)) o false ≡ option_map_or (λ at. nat_le at event) o false
same_if event None other = refl
same_if event (Some at) other = le_same at event (λ is. other (ap Some is)) where
  le_same : (at event : ℕ) → at ≢ event + 1 → nat_le at (event + 1) ≡ nat_le at event
  le_same at event other = grind (arith, other)

or_false : (b : Bool) → (b || false) ≡ b
or_false true = refl
or_false false = refl

or_true : (b : Bool) → (b || true) ≡ true
or_true true = refl
or_true false = refl

answered_now : (event : ℕ) (o : Option ℕ) → o ≡ Some (event + 1) → option_map_or (λ at. nat_le at (event + 1)) o false ≡ true
answered_now event None is = absurd cc
answered_now event (Some at) is = let same : at ≡ event + 1 = cc in grind (arith, same)

module _ (times : Times) (k : ℕ) where
  pub answered_silent : ((m : ℕ) → times.end_of m ≢ Some (k + 1)) → answered_by times (k + 1) ≡ answered_by times k
  answered_silent silent = λ i m. same_if k (times.end_of m) (silent m) i

  answered_at : (n m : ℕ) → times.end_of n ≡ Some (k + 1) → ((o : ℕ) → times.end_of o ≡ Some (k + 1) → o ≡ n) → answered_by times (k + 1) m ≡ also (answered_by times k) n m
  answered_at n m ends alone =
      elim (cases_eq m n) [
        | inl same ↦ answered_now k (times.end_of m) (ap times.end_of same ∙ ends) ∙ sym (ap (λ b. answered_by times k m || b) (eq-eqb m n same) ∙ or_true (answered_by times k m))
        | inr other ↦ same_if k (times.end_of m) (λ is. other (alone m is)) ∙ sym (ap (λ b. answered_by times k m || b) (ne_eqb m n other) ∙ or_false (answered_by times k m))
      ]

  pub answered_one_more : (n : ℕ) → times.end_of n ≡ Some (k + 1) → ((o : ℕ) → times.end_of o ≡ Some (k + 1) → o ≡ n) → answered_by times (k + 1) ≡ also (answered_by times k) n
  answered_one_more n ends alone = λ i m. answered_at n m ends alone i

module _ (times : Times) (events : List Event) (tells : Tells times events) where
  -- a call is answered at this event
  abbrev pub IsAnswerAt : ℕ → ℕ → Type 0
  IsAnswerAt k n = StandsAt events k (Answered n) ⊎ StandsAt events k (AtOnce n)

  ends_here : (k n : ℕ) → IsAnswerAt k n → times.end_of n ≡ Some (k + 1)
  ends_here k n (inl at) = tells.answers k n at
  ends_here k n (inr at) = tells.at_once k n at

  -- at another event no call is
  silent_at : (k : ℕ) (x : Event) → StandsAt events k x → ((m : ℕ) → x ≢ Answered m) → ((m : ℕ) → x ≢ AtOnce m) → (m : ℕ) → times.end_of m ≢ Some (k + 1)
  silent_at k x at not_answered not_at_once m ends =
      let e = tells.ends m (k + 1) ends in
      let same : e.0 ≡ k = omega (arith, e.1) in
      elim e.2 [
        | inl there ↦ not_answered m (one_event events k e.0 x (Answered m) same at there)
        | inr there ↦ not_at_once m (one_event events k e.0 x (AtOnce m) same at there)
      ]

  silent_called : (k n : ℕ) → StandsAt events k (Called n) → (m : ℕ) → times.end_of m ≢ Some (k + 1)
  silent_called k n at = silent_at k (Called n) at (λ m is. absurd cc) (λ m is. absurd cc)

  silent_passed : (k : ℕ) → StandsAt events k Passed → (m : ℕ) → times.end_of m ≢ Some (k + 1)
  silent_passed k at = silent_at k Passed at (λ m is. absurd cc) (λ m is. absurd cc)

  -- at an answer one call is answered
  alone : (k n : ℕ) → IsAnswerAt k n → (m : ℕ) → times.end_of m ≡ Some (k + 1) → m ≡ n
  alone k n at m ends =
      let e = tells.ends m (k + 1) ends in
      let same : e.0 ≡ k = omega (arith, e.1) in
      both at e.2 same where
        both : {j : ℕ} → IsAnswerAt k n → IsAnswerAt j m → j ≡ k → m ≡ n
        both {j} (inl first) (inl second) same = let it : Answered n ≡ Answered m = one_event events k j (Answered n) (Answered m) same first second in cc
        both {j} (inl first) (inr second) same = let it : Answered n ≡ AtOnce m = one_event events k j (Answered n) (AtOnce m) same first second in absurd cc
        both {j} (inr first) (inl second) same = let it : AtOnce n ≡ Answered m = one_event events k j (AtOnce n) (Answered m) same first second in absurd cc
        both {j} (inr first) (inr second) same = let it : AtOnce n ≡ AtOnce m = one_event events k j (AtOnce n) (AtOnce m) same first second in cc

  -- another call that began by an answer began earlier
  not_now : (k n m j : ℕ) → IsAnswerAt k n → m ≢ n → j ≡ k → StandsAt events j (Called m) ⊎ StandsAt events j (AtOnce m) → ⊥
  not_now k n m j (inl at) other same (inl there) = let it : Answered n ≡ Called m = one_event events k j (Answered n) (Called m) same at there in absurd cc
  not_now k n m j (inl at) other same (inr there) = let it : Answered n ≡ AtOnce m = one_event events k j (Answered n) (AtOnce m) same at there in absurd cc
  not_now k n m j (inr at) other same (inl there) = let it : AtOnce n ≡ Called m = one_event events k j (AtOnce n) (Called m) same at there in absurd cc
  not_now k n m j (inr at) other same (inr there) = let it : AtOnce n ≡ AtOnce m = one_event events k j (AtOnce n) (AtOnce m) same at there in let is : m ≡ n = cc in other is

  began_earlier : (k n m : ℕ) → IsAnswerAt k n → m ≢ n → IsTrue (times.is_call m) → times.begin_of m ≤ k + 1 → times.begin_of m ≤ k
  began_earlier k n m at other known by =
      elim (cases_lt k (times.begin_of m)) [
        | inr earlier ↦ earlier
        | inl now ↦ let b = tells.begins m known in
            let same : b.0 ≡ k = omega (arith, b.1, by, now) in
            absurd (not_now k n m b.0 at other same b.2)
      ]

  -- what isn't answered by an event, nor at the next one, isn't by the next one
  one_later : (k m : ℕ) → IsUnanswered times k m → times.end_of m ≢ Some (k + 1) → IsUnanswered times (k + 1) m
  one_later k m unanswered other at ends =
      let by = unanswered at ends in
      elim (cases_lt (k + 1) at) [
        | inl later ↦ later
        | inr not_later ↦ let same : at ≡ k + 1 = omega arith in absurd (other (ends ∙ ap Some same))
      ]

  earlier_too : (k m : ℕ) → IsUnanswered times (k + 1) m → IsUnanswered times k m
  earlier_too k m unanswered at ends = let later = unanswered at ends in omega (arith, later)

  -- one call more waits
  waiting_called : (k n : ℕ) (waiting : List ℕ) → StandsAt events k (Called n) → AreWaiting times k waiting → AreWaiting times (k + 1) (waiting ++ n ∷ [])
  waiting_called k n waiting at are = record {
    all = λ m known by unanswered. elim (cases_lt k (times.begin_of m)) [
      | inr earlier ↦ among_ahead waiting (n ∷ []) m (are.all m known earlier (earlier_too k m unanswered))
      | inl now ↦ let b = tells.begins m known in
          let same : b.0 ≡ k = omega (arith, b.1, by, now) in
          let same_call : n ≡ m = called_here m b.0 same b.2 in
          subst (IsAmong (waiting ++ n ∷ [])) same_call (among_last waiting n)
    ];
    only = λ m among. elim (or_last waiting n m among) [
      | inl ahead ↦ one_later k m (are.only m ahead) (silent_called k n at m)
      | inr same ↦ subst (IsUnanswered times (k + 1)) same (tells.unanswered k n at)
    ];
  } where
    called_here : (m j : ℕ) → j ≡ k → StandsAt events j (Called m) ⊎ StandsAt events j (AtOnce m) → n ≡ m
    called_here m j same (inl there) = let it : Called n ≡ Called m = one_event events k j (Called n) (Called m) same at there in cc
    called_here m j same (inr there) = let it : Called n ≡ AtOnce m = one_event events k j (Called n) (AtOnce m) same at there in absurd cc

  -- the same calls wait
  waiting_passed : (k : ℕ) (waiting : List ℕ) → StandsAt events k Passed → AreWaiting times k waiting → AreWaiting times (k + 1) waiting
  waiting_passed k waiting at are = record {
    all = λ m known by unanswered. elim (cases_lt k (times.begin_of m)) [
      | inr earlier ↦ are.all m known earlier (earlier_too k m unanswered)
      | inl now ↦ let b = tells.begins m known in
          let same : b.0 ≡ k = omega (arith, b.1, by, now) in
          absurd (none_here m b.0 same b.2)
    ];
    only = λ m among. one_later k m (are.only m among) (silent_passed k at m);
  } where
    none_here : (m j : ℕ) → j ≡ k → StandsAt events j (Called m) ⊎ StandsAt events j (AtOnce m) → ⊥
    none_here m j same (inl there) = let it : Passed ≡ Called m = one_event events k j Passed (Called m) same at there in absurd cc
    none_here m j same (inr there) = let it : Passed ≡ AtOnce m = one_event events k j Passed (AtOnce m) same at there in absurd cc

  -- one call waits no more
  waiting_answered : (k n : ℕ) (waiting left : List ℕ) → IsAnswerAt k n → IsWithout n waiting left → AreWaiting times k waiting → AreWaiting times (k + 1) left
  waiting_answered k n waiting left at without are = record {
    all = λ m known by unanswered.
        let other : m ≢ n = (λ same. let never = unanswered (k + 1) (ap times.end_of same ∙ ends_here k n at) in omega (arith, never)) in
        without.keeps m (are.all m known (began_earlier k n m at other known by) (earlier_too k m unanswered)) other;
    only = λ m among. let w = without.only m among in one_later k m (are.only m w.0) (λ ends. w.1 (alone k n at m ends));
  }

  -- those that are left are the open ones
  open_waits : (k n : ℕ) (waiting left : List ℕ) → IsAnswerAt k n → IsWithout n waiting left → AreWaiting times k waiting → (m : ℕ) → IsOpen times k m → m ≢ n → IsAmong left m
  open_waits k n waiting left at without are m is_open other = without.keeps m (are.all m is_open.known (began_earlier k n m at other is_open.known is_open.began) is_open.unanswered) other

  module _ {Plan Point State : Type 0} (StandsFor : Plan → (ℕ → Bool) → Point → State → Type 0) (placed : Point → ℕ → Bool) (Next : Plan → Point → ℕ → Point → Type 0) where
    -- what the states stand for behind an event
    abbrev pub Held : Plan → ℕ → List State → Point → Type 0
    Held plan k states = Holds StandsFor plan (answered_by times k) states

    module _ (plan : Plan) where
      extended_by : (k n : ℕ) (left : List ℕ) (before middle after : List State) → IsAnswerAt k n → IsAnswering times (answered_by times k) k n (left ++ n ∷ [])
          → ExtendsAll StandsFor placed Next (left ++ n ∷ []) n before middle → ForgetsAll StandsFor placed Next n middle after
          → Completes StandsFor placed Next plan (answered_by times k) times k before → (point : Point) × Held plan (k + 1) after point × ((o : List ℕ) × IsCompletion placed (Next plan) times (k + 1) point o)
      extended_by k n left before middle after at answering extends forgets has =
          let w = extends plan (answered_by times k) times k answering has in (
            w.0,
            subst (λ gone. Holds StandsFor plan gone after w.0) (sym (answered_one_more times k n (ends_here k n at) (alone k n at))) (forgets plan (answered_by times k) w.0 w.1),
            w.2,
          )

      still_held : (k : ℕ) (before after : List State) → ((m : ℕ) → times.end_of m ≢ Some (k + 1)) → after ≡ before → (point : Point) → Held plan k before point → Held plan (k + 1) after point
      still_held k before after silent is point held =
          subst (λ l. Held plan (k + 1) l point) (sym is) (subst (λ gone. Holds StandsFor plan gone before point) (sym (answered_silent times k silent)) held)

    module _ (told : (plan : Plan) → IsTold placed (Next plan)) (first : Plan → Point) where
      -- what the walk keeps: of each plan what it holds covers, and which calls wait
      abbrev pub Keeps : ℕ → List ℕ → List State → Type 0
      Keeps k waiting states = ((plan : Plan) → Covers placed (Next plan) times (first plan) k (Held plan k states)) × AreWaiting times k waiting

      -- what the walk knows of the answer of n
      answering_at : (k n : ℕ) (waiting left : List ℕ) → IsAnswerAt k n → IsWithout n waiting left → AreWaiting times k waiting → IsAnswering times (answered_by times k) k n (left ++ n ∷ [])
      answering_at k n waiting left at without are = record {
        answer = record { ends = ends_here k n at; alone = alone k n at };
        there = among_last left n;
        all = λ m is_open other. among_ahead left (n ∷ []) m (open_waits k n waiting left at without are m is_open other);
        kept = all_of_each (λ m. answered_by times k m ≡ false) (left ++ n ∷ []) (λ m among. elim (or_last left n m among) [
          | inl ahead ↦ unanswered_kept times k m (are.only m (without.only m ahead).0)
          | inr same ↦ subst (λ i. answered_by times k i ≡ false) same (unanswered_kept times k n (λ e ends. later_than k e (sym (ends_here k n at) ∙ ends)))
        ]);
      } where
        later_than : (k e : ℕ) → Some (k + 1) ≡ Some e → k < e
        later_than k e same = let is : k + 1 ≡ e = cc in omega (arith, is)

      answer_taken : (k n : ℕ) (waiting left : List ℕ) (before after : List State) → IsAnswerAt k n
          → IsAnswerStep StandsFor placed Next n waiting left before after → Keeps k waiting before → Keeps (k + 1) left after
      answer_taken k n waiting left before after at step kept = (
        (λ plan order witness. extended_by plan k n left before step.1.0 after at (answering_at k n waiting left at step.0 kept.1) step.1.1 step.1.2 (kept.0 plan order witness)),
        waiting_answered k n waiting left at step.0 kept.1,
      )

      -- a call that is sent may be placed at once
      settled_by : (plan : Plan) (k n : ℕ) (before after : List State) → StandsAt events k (Called n) → SettlesAll StandsFor placed Next (n ∷ []) before after
          → Covers placed (Next plan) times (first plan) k (Held plan k before) → Covers placed (Next plan) times (first plan) (k + 1) (Held plan (k + 1) after)
      settled_by plan k n before after at settles covers order witness =
          let w = covers order witness in
          let other = settles w.1.0 w.1.1 in
          let still : IsUnanswered times k n = earlier_too k n (tells.unanswered k n at) in
          let moved = other.2 plan (answered_by times k) w.0 w.1.2 (unanswered_kept times k n still, tt) in
          let c = moved.2.serves times (k + 1) w.2.0 (completion_passes placed (Next plan) (told plan) times k w.0 w.2.0 (silent_called k n at) w.2.1) in (
            moved.0,
            (other.0, other.1, subst (λ gone. StandsFor plan gone moved.0 other.0) (sym (answered_silent times k (silent_called k n at))) moved.1),
            c,
          )

      -- an event of the list is a step of the walk
      pub take_one : (k : ℕ) (event : Event) (waiting left : List ℕ) (before after : List State) → StandsAt events k event
          → IsEventStep StandsFor placed Next event waiting left before after → Keeps k waiting before → Keeps (k + 1) left after
      take_one k (Called n) waiting left before after at is kept = (
        (λ plan. settled_by plan k n before after at is.0 (kept.0 plan)),
        subst (AreWaiting times (k + 1)) (sym is.1) (waiting_called k n waiting at kept.1),
      )
      take_one k (Answered n) waiting left before after at is kept = answer_taken k n waiting left before after (inl at) is kept
      take_one k (AtOnce n) waiting left before after at is kept = answer_taken k n waiting left before after (inr at) is kept
      take_one k Passed waiting left before after at is kept = (
        (λ plan. covers_passed placed (Next plan) (told plan) times (first plan) k (Held plan k before) (Held plan (k + 1) after) (silent_passed k at)
            (still_held plan k before after (silent_passed k at) is.0) (kept.0 plan)),
        subst (AreWaiting times (k + 1)) (sym is.1) (waiting_passed k waiting at kept.1),
      )

      -- states that stand for what these stand for
      pub keeps_renewed : (k : ℕ) (waiting : List ℕ) (before after : List State) → ((s : State) → Contains before s → HasFor StandsFor after s) → Keeps k waiting before → Keeps k waiting after
      keeps_renewed k waiting before after has kept = (
        (λ plan order witness.
            let w = kept.0 plan order witness in
            let other = has w.1.0 w.1.1 in
            (w.0, (other.0, other.1, other.2 plan (answered_by times k) w.0 w.1.2), w.2)),
        kept.1,
      )

-- a state is left where one settles each of some
some_settled : {Plan Point State : Type 0} (StandsFor : Plan → (ℕ → Bool) → Point → State → Type 0) (placed : Point → ℕ → Bool) (Next : Plan → Point → ℕ → Point → Type 0) (n : ℕ)
    (before after : List State) → 0 < length before → SettlesAll StandsFor placed Next (n ∷ []) before after → 0 < length after
some_settled StandsFor placed Next n [] after some settles = absurd (omega (arith, some))
some_settled StandsFor placed Next n (s ∷ states) after some settles = let other = settles s (0, some, refl) in omega (arith, other.1.1)

-- a state is left behind each event at which the walk goes on
pub still_left : {Plan Point State : Type 0} (StandsFor : Plan → (ℕ → Bool) → Point → State → Type 0) (placed : Point → ℕ → Bool) (Next : Plan → Point → ℕ → Point → Type 0) (event : Event)
    (waiting left : List ℕ) (before after : List State) → IsEventStep StandsFor placed Next event waiting left before after → 0 < length before → HasStateBehind event after → 0 < length after
still_left StandsFor placed Next (Called n) waiting left before after step some behind = some_settled StandsFor placed Next n before after some step.0
still_left StandsFor placed Next (Answered n) waiting left before after step some behind = behind
still_left StandsFor placed Next (AtOnce n) waiting left before after step some behind = behind
still_left StandsFor placed Next Passed waiting left before after step some behind = subst (λ l. 0 < length l) (sym step.0) some

-- what a list has at a place stands there
pub stands_itself : (events : List Event) (k : ℕ) (d : Event) → k < length events → StandsAt events k (get_or events k d)
stands_itself events k d inside = (inside, get_or_default events k (get_or events k d) d inside)

module _ {Plan Point State : Type 0} (StandsFor : Plan → (ℕ → Bool) → Point → State → Type 0) (placed : Point → ℕ → Bool) (Next : Plan → Point → ℕ → Point → Type 0)
    (told : (plan : Plan) → IsTold placed (Next plan)) (first : Plan → Point) (times : Times) (events : List Event) (tells : Tells times events) where
  -- no call is answered ahead of the first event
  none_gone : answered_by times 0 ≡ (λ _. false)
  none_gone = λ i m. unanswered_kept times 0 m (λ at ends. let e = tells.ends m at ends in omega (arith, e.1)) i

  -- the loop's invariant at the beginning
  pub keeps_first : (opening : State) (states : List State) (waiting : List ℕ) → states ≡ opening ∷ [] → waiting ≡ []
      → ((plan : Plan) → StandsFor plan (λ _. false) (first plan) opening) → ((plan : Plan) (n : ℕ) → placed (first plan) n ≡ false)
      → Keeps times events tells StandsFor placed Next told first 0 waiting states
  keeps_first opening states waiting is none stands fresh = (
    (λ plan. subst (λ l. Covers placed (Next plan) times (first plan) 0 (Held times events tells StandsFor placed Next plan 0 l)) (sym is)
        (covers_first placed (Next plan) (told plan) times (first plan) (Held times events tells StandsFor placed Next plan 0 (opening ∷ []))
        (opening, (0, omega arith, refl), subst (λ gone. StandsFor plan gone (first plan) opening) (sym none_gone) (stands plan))
        (fresh plan) (λ n at ends. let e = tells.ends n at ends in omega (arith, e.1)))),
    subst (AreWaiting times 0) (sym none) (record {
      all = λ m known by unanswered. let b = tells.begins m known in absurd (omega (arith, b.1, by));
      only = λ m among. absurd among;
    }),
  )

  -- and at the end, where a step left no state
  pub none_after : (event : ℕ) (waiting : List ℕ) (states : List State) → states ≡ [] → Keeps times events tells StandsFor placed Next told first event waiting states
      → (plan : Plan) (order : List ℕ) → ¬ IsWitness placed (Next plan) times (first plan) order
  none_after event waiting states empty kept plan =
      none_left placed (Next plan) (told plan) times (first plan) event (Held times events tells StandsFor placed Next plan event states)
      (λ point held. nothing_there held.0 (subst (λ l. Contains l held.0) empty held.1)) (kept.0 plan) where
        nothing_there : (s : State) → Contains [] s → ⊥
        nothing_there s there = omega (arith, there.1)
