-- The numbers of a history's calls and crashes are a numbering by eras.
use Rattle.std.proofs.Common.{◌≡◌, ◌⊎◌, inl, inr, ℕ, ◌+◌, ◌≤◌, nat_le, Bool, true, false, cond, IsTrue, length, Option, Some, None, refl, sym, ap, subst, ◌∙◌, arith}
use Rattle.std.specs.Prelude.{option_and_then, option_map, unwrap_or}
use Rattle.std.specs.Option.{option_map_or}
use Rattle.nfs_history.specs.declared.recorded.RecordedCall.{RecordedCall}
use Rattle.nfs_history.specs.declared.knowing.KnownCalls.{KnownCalls}
use Rattle.nfs_history.specs.Precedence.{call_at, begin_of}
use Rattle.order_check.specs.Places.{is_wanted, passes}
use Rattle.decision_core.specs.Eras.{IsEra, IsNumbering}
use Rattle.decision_law.specs.NeverLost.{Hints}
use Rattle.decision_law.specs.Times.{IsTimed, AreTimed, may_stand, answered_end, is_of_call, era_ended, era_of_number, numbering_of, times_of}

-- what passes a test is there
pub passing : (test : RecordedCall → Bool) (o : Option RecordedCall) → passes test o ≡ true → (recorded : RecordedCall) × (o ≡ Some recorded) × (test recorded ≡ true)
passing test None passed = absurd cc
passing test (Some recorded) passed = (recorded, refl, passed)

ended_as : (b : Bool) (o : Option ℕ) (at : ℕ) → cond b o None ≡ Some at → (b ≡ true) × (o ≡ Some at)
ended_as true o at ends = (refl, ends)
ended_as false o at ends = absurd cc

-- a call that has an end by its times is wanted, and ends so
pub wanted_end : (o : Option RecordedCall) (at : ℕ) → option_and_then answered_end o ≡ Some at → (recorded : RecordedCall) × (o ≡ Some recorded) × (is_wanted recorded ≡ true) × (recorded.«end» ≡ Some at)
wanted_end None at ends = absurd cc
wanted_end (Some recorded) at ends = let e = ended_as (is_wanted recorded) recorded.«end» at ends in (recorded, refl, e.0, e.1)

module _ (known : KnownCalls) (start : ℕ → ℕ) where
  -- the number is that of a call, or of a crash
  abbrev pub IsOfCall : ℕ → Type 0
  IsOfCall n = (is_of_call known n ≡ true) ⊎ (is_of_call known n ≡ false)

  pub which : (n : ℕ) → IsOfCall n
  which n = either (is_of_call known n) where
    either : (b : Bool) → (b ≡ true) ⊎ (b ≡ false)
    either true = inl refl
    either false = inr refl

  module _ {X : Type 0} (n : ℕ) (x y : X) where
    pub of_call : is_of_call known n ≡ true → cond (is_of_call known n) x y ≡ x
    of_call is = ap (λ b. cond b x y) is

    pub of_crash : is_of_call known n ≡ false → cond (is_of_call known n) x y ≡ y
    of_crash is = ap (λ b. cond b x y) is

  crash_is : (e : ℕ) → 1 ≤ e → is_of_call known (length known.calls + e) ≡ false
  crash_is e some = grind (arith, some)

  crash_era : (e : ℕ) → era_ended known (length known.calls + e) ≡ e
  crash_era e = omega arith

  module _ (timed : AreTimed known start) where
    -- a call that the times know
    pub timed_call : (n : ℕ) → is_of_call known n ≡ true → IsTrue ((times_of known start).is_call n)
        → (recorded : RecordedCall) × (call_at known.calls n ≡ Some recorded) × IsTimed start recorded
    timed_call n is known_call =
        let p = passing may_stand (call_at known.calls n) (sym (of_call n (passes may_stand (call_at known.calls n)) (nat_le (era_ended known n) known.eras) is) ∙ known_call) in
        (p.0, p.1, timed.timed n p.0 p.1)

    -- its era, its begin and its end
    module _ (n : ℕ) (is : is_of_call known n ≡ true) (recorded : RecordedCall) (stands : call_at known.calls n ≡ Some recorded) where
      pub its_era : era_of_number known n ≡ recorded.era
      its_era = of_call n (option_map_or (λ r. r.era) (call_at known.calls n) 0) (era_ended known n) is ∙ ap (λ o. option_map_or (λ r. r.era) o 0) stands

      pub its_begin : (times_of known start).begin_of n ≡ recorded.begin
      its_begin = of_call n (begin_of known.calls n) (start (era_ended known n + 1)) is ∙ ap (λ o. unwrap_or (option_map (λ r. r.begin) o) 0) stands

      pub its_end : (times_of known start).end_of n ≡ answered_end recorded
      its_end = of_call n (option_and_then answered_end (call_at known.calls n)) (cond (nat_le (era_ended known n) known.eras) (Some (start (era_ended known n + 1))) None) is
          ∙ ap (option_and_then answered_end) stands

    -- a crash begins and ends where the next era begins
    module _ (n : ℕ) (is : is_of_call known n ≡ false) where
      pub crash_era_of : era_of_number known n ≡ era_ended known n
      crash_era_of = of_crash n (option_map_or (λ r. r.era) (call_at known.calls n) 0) (era_ended known n) is

      pub crash_begin : (times_of known start).begin_of n ≡ start (era_ended known n + 1)
      crash_begin = of_crash n (begin_of known.calls n) (start (era_ended known n + 1)) is

      pub crash_end : (times_of known start).end_of n ≡ cond (nat_le (era_ended known n) known.eras) (Some (start (era_ended known n + 1))) None
      crash_end = of_crash n (option_and_then answered_end (call_at known.calls n)) (cond (nat_le (era_ended known n) known.eras) (Some (start (era_ended known n + 1))) None) is

      pub crash_known : (times_of known start).is_call n ≡ nat_le (era_ended known n) known.eras
      crash_known = of_crash n (passes may_stand (call_at known.calls n)) (nat_le (era_ended known n) known.eras) is

    some_end : (b : Bool) (begin at : ℕ) → cond b (Some begin) None ≡ Some at → begin ≡ at
    some_end true begin at ends = cc
    some_end false begin at ends = absurd cc

    begins_late : (n : ℕ) → IsTrue ((times_of known start).is_call n) → start (era_of_number known n) ≤ (times_of known start).begin_of n
    begins_late n known_call = elim (which n) [
      | inl is ↦ let c = timed_call n is known_call in
          let era = its_era n is c.0 c.1 in
          let begin = its_begin n is c.0 c.1 in
          subst (λ e. start e ≤ (times_of known start).begin_of n) (sym era) (subst (λ b. start c.0.era ≤ b) (sym begin) c.2.begins_late)
      | inr is ↦ let begin = crash_begin n is in
          subst (λ e. start e ≤ (times_of known start).begin_of n) (sym (crash_era_of n is))
          (subst (λ b. start (era_ended known n) ≤ b) (sym begin) (timed.rises (era_ended known n) (era_ended known n + 1) (omega arith)))
    ]

    begins_early : (n : ℕ) → IsTrue ((times_of known start).is_call n) → (times_of known start).begin_of n ≤ start (era_of_number known n + 1)
    begins_early n known_call = elim (which n) [
      | inl is ↦ let c = timed_call n is known_call in
          let era = its_era n is c.0 c.1 in
          let begin = its_begin n is c.0 c.1 in
          subst (λ e. (times_of known start).begin_of n ≤ start (e + 1)) (sym era) (subst (λ b. b ≤ start (c.0.era + 1)) (sym begin) c.2.begins_early)
      | inr is ↦ let begin = crash_begin n is in
          subst (λ e. (times_of known start).begin_of n ≤ start (e + 1)) (sym (crash_era_of n is))
          (subst (λ b. b ≤ start (era_ended known n + 1)) (sym begin) (omega arith))
    ]

    ends_late : (n at : ℕ) → IsTrue ((times_of known start).is_call n) → (times_of known start).end_of n ≡ Some at → (times_of known start).begin_of n ≤ at
    ends_late n at known_call ends = elim (which n) [
      | inl is ↦ let c = timed_call n is known_call in
          let begin = its_begin n is c.0 c.1 in
          let e = ended_as (is_wanted c.0) c.0.«end» at (sym (its_end n is c.0 c.1) ∙ ends) in
          let h = c.2.ends_late at e.1 in
          subst (λ b. b ≤ at) (sym begin) (omega (arith, h))
      | inr is ↦ let begin = crash_begin n is in
          let same = some_end (nat_le (era_ended known n) known.eras) (start (era_ended known n + 1)) at (sym (crash_end n is) ∙ ends) in
          subst (λ b. b ≤ at) (sym begin) (omega (arith, same))
    ]

    within : (e : ℕ) → IsEra known.eras e → nat_le (era_ended known (length known.calls + e)) known.eras ≡ true
    within e inside = let h = inside.1 in grind (arith, h)

    pub numbered : (hints : Hints) → IsNumbering (times_of known start) (numbering_of known hints) known.eras (start)
    numbered hints = record {
      begins_late = begins_late;
      begins_early = begins_early;
      ends_late = ends_late;
      rises = timed.rises;
      crash_call = λ e inside. let is = crash_is e inside.0 in (
        crash_known (length known.calls + e) is ∙ within e inside,
        crash_era_of (length known.calls + e) is ∙ crash_era e,
        is,
      );
      crash_ends = λ e inside. let is = crash_is e inside.0 in
          crash_end (length known.calls + e) is
          ∙ ap (λ b. cond b (Some (start (era_ended known (length known.calls + e) + 1))) None) (within e inside)
          ∙ ap (λ k. Some (start (k + 1))) (crash_era e);
    }
