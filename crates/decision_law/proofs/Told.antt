-- The spans of a history's calls and crashes are those of its times.
use Rattle.std.proofs.Common.{◌≡◌, inl, inr, ℕ, ◌+◌, ◌<◌, ◌≤◌, nat_le, Bool, true, false, cond, IsTrue, List, length, Some, None, Contains, refl, sym, ap, subst, ◌∙◌, arith}
use Rattle.nfs_history.specs.declared.recorded.RecordedCall.{RecordedCall}
use Rattle.nfs_history.specs.declared.knowing.KnownCalls.{KnownCalls}
use Rattle.nfs_history.specs.Precedence.{call_at}
use Rattle.order_check.specs.Places.{is_wanted, passes}
use Rattle.decision_core.specs.declared.spans.Span.{Span}
use Rattle.decision_core.specs.Spanned.{AreSpansOf}
use Rattle.decision_law.specs.NeverLost.{no_hints}
use Rattle.decision_law.specs.Times.{AreTimed, may_stand, may_be_taken, is_of_call, era_ended, times_of}
use Rattle.decision_law.specs.Spans.{IsOfCall, IsOfCrash, AreSpans}
use Rattle.decision_law.proofs.Numbered.{passing, wanted_end, which, of_call, its_begin, its_end, crash_begin, crash_end, crash_known, numbered}
use Rattle.decision_law.proofs.Placed.{is_call_number, or_from}

module _ (known : KnownCalls) (start : ℕ → ℕ) (timed : AreTimed known start) where
  call_times : (n : ℕ) (recorded : RecordedCall) (span : Span) → IsOfCall known start n recorded span
      → ((times_of known start).begin_of n ≡ span.begin) × ((times_of known start).end_of n ≡ span.«end»)
  call_times n recorded span of = let is = is_call_number known n recorded of.stands in (
    its_begin known start timed n is recorded of.stands ∙ sym of.begins,
    its_end known start timed n is recorded of.stands ∙ sym of.ends,
  )

  crash_number : (e : ℕ) → 1 ≤ e → is_of_call known (length known.calls + e) ≡ false
  crash_number e some = grind (arith, some)

  within : (e : ℕ) → e ≤ known.eras → nat_le (era_ended known (length known.calls + e)) known.eras ≡ true
  within e inside = grind (arith, inside)

  crash_times : (e : ℕ) (span : Span) → IsOfCrash known start e span
      → ((times_of known start).begin_of (length known.calls + e) ≡ span.begin) × ((times_of known start).end_of (length known.calls + e) ≡ span.«end»)
  crash_times e span of =
      let n = length known.calls + e in
      let is = crash_number e of.inside.0 in
      let era : era_ended known n ≡ e = omega arith in (
        crash_begin known start timed n is ∙ ap (λ k. start (k + 1)) era ∙ sym of.begins,
        crash_end known start timed n is ∙ ap (λ b. cond b (Some (start (era_ended known n + 1))) None) (within e of.inside.1) ∙ ap (λ k. Some (start (k + 1))) era ∙ sym of.ends,
      )

  -- what ends is known
  some_end : (b : Bool) (begin at : ℕ) → cond b (Some begin) None ≡ Some at → b ≡ true
  some_end true begin at ends = refl
  some_end false begin at ends = absurd cc

  known_end : (n at : ℕ) → (times_of known start).end_of n ≡ Some at → IsTrue ((times_of known start).is_call n)
  known_end n at ends = elim (which known start n) [
    | inl is ↦ let w = wanted_end (call_at known.calls n) at (sym (of_call known start n _ _ is) ∙ ends) in
        of_call known start n (passes may_stand (call_at known.calls n)) (nat_le (era_ended known n) known.eras) is
        ∙ ap (passes may_stand) w.1 ∙ or_from (is_wanted w.0) (may_be_taken w.0) (inl w.2)
    | inr is ↦ crash_known known start timed n is ∙ some_end (nat_le (era_ended known n) known.eras) (start (era_ended known n + 1)) at (sym (crash_end known start timed n is) ∙ ends)
  ]

  behind_calls : (n : ℕ) → is_of_call known n ≡ false → length known.calls < n
  behind_calls n is = grind (arith, is)

  at_most : (a b : ℕ) → nat_le a b ≡ true → a ≤ b
  at_most a b is = grind (arith, is)

  module _ (spans : List Span) (are : AreSpans known start spans) where
    abbrev Listed : ℕ → Type 0
    Listed n = (span : Span) × Contains spans span × (span.number ≡ n) × ((times_of known start).begin_of n ≡ span.begin) × ((times_of known start).end_of n ≡ span.«end»)

    listed_crash : (e : ℕ) → 1 ≤ e → e ≤ known.eras → Listed (length known.calls + e)
    listed_crash e some inside =
        let s = are.crashes e some inside in
        let t = crash_times e s.0 s.2 in
        (s.0, s.1, s.2.number, t.0, t.1)

    listed : (n : ℕ) → IsTrue ((times_of known start).is_call n) → Listed n
    listed n known_call = elim (which known start n) [
      | inl is ↦ let p = passing may_stand (call_at known.calls n) (sym (of_call known start n (passes may_stand (call_at known.calls n)) (nat_le (era_ended known n) known.eras) is) ∙ known_call) in
          let s = are.calls n p.0 p.1 p.2 in
          let t = call_times n p.0 s.0 s.2 in
          (s.0, s.1, s.2.number, t.0, t.1)
      | inr is ↦ let most = at_most (era_ended known n) known.eras (sym (crash_known known start timed n is) ∙ known_call) in
          let behind = behind_calls n is in
          let same : length known.calls + era_ended known n ≡ n = omega (arith, behind) in
          subst Listed same (listed_crash (era_ended known n) (omega (arith, behind)) most)
    ]

    only : (span : Span) → Contains spans span → ((times_of known start).begin_of span.number ≡ span.begin) × ((times_of known start).end_of span.number ≡ span.«end»)
    only span there = elim (are.only span there) [
      | inl (n, recorded, of) ↦ let t = call_times n recorded span of in
          (ap (times_of known start).begin_of of.number ∙ t.0, ap (times_of known start).end_of of.number ∙ t.1)
      | inr (e, of) ↦ let t = crash_times e span of in
          (ap (times_of known start).begin_of of.number ∙ t.0, ap (times_of known start).end_of of.number ∙ t.1)
    ]

    pub spans_tell : AreSpansOf (times_of known start) spans
    spans_tell = record {
      listed = listed;
      only = only;
      known = known_end;
      late = λ n at ends. (numbered known start timed no_hints).ends_late n at (known_end n at ends) ends;
    }
