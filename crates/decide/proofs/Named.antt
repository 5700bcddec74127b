-- the call that is named was answered at the event that is named
use Rattle.std.proofs.Common.{◌≡◌, inl, inr, ℕ, zero, suc, ◌+◌, ◌-◌, ◌<◌, ◌≤◌, leb, Bool, true, false, cond, List, [], ◌∷◌, length, get_or, Some, None, refl, sym, ap, ◌∙◌, arith}
use Rattle.std.specs.Prelude.{option_and_then}
use Rattle.std.proofs.lemmas.Bool.{le-leb, leb-true, leb-false}
use Rattle.std.proofs.lemmas.Option.{none-some}
use Rattle.nfs_history.specs.declared.recorded.RecordedCall.{RecordedCall}
use Rattle.nfs_history.specs.declared.knowing.KnownCalls.{KnownCalls}
use Rattle.nfs_history.specs.HistoryValue.{HistoryValue}
use Rattle.nfs_history.specs.History.{recording_of}
use Rattle.nfs_history.specs.Precedence.{call_at, end_of}
use Rattle.decision_core.specs.declared.deciding.Event.{Event}
use Rattle.decision_core.specs.declared.deciding.Event.TheVariants.{Called, Answered, AtOnce, Passed}
use Rattle.decision_core.specs.Times.{Times}
use Rattle.decision_core.specs.Events.{Tells, IsAnswer}
use Rattle.decision_walk.specs.decision_law_specs.Times.{answered_end, era_start, times_of}
use Rattle.decision_walk.proofs.decision_law_laws.Numbered.{wanted_end}
use Rattle.decide.specs.declared.verifiers.Shown.{Shown}
use Rattle.decide.specs.Decision.{IsAnsweredAt, TellsOf}
use Rattle.decide.specs.Verifiers.{IsShownIn}

-- an item of a list doesn't depend on what stands past its end
any_default : (xs : List Event) (i : ℕ) (d e : Event) → i < length xs → get_or xs i d ≡ get_or xs i e
any_default [] i d e inside = absurd (omega (arith, inside))
any_default (x ∷ xs) zero d e inside = refl
any_default (x ∷ xs) (suc i) d e inside = any_default xs i d e (omega (arith, inside))

-- an answer among events that tell these times
answer_ends : (times : Times) (events : List Event) (i call : ℕ) → Tells times events → i < length events → IsAnswer (get_or events i Passed) call → times.end_of call ≡ Some (i + 1)
answer_ends times events i call tells inside answer = go (get_or events i Passed) refl answer where
  go : (e : Event) → get_or events i Passed ≡ e → IsAnswer e call → times.end_of call ≡ Some (i + 1)
  go (Called m) is same = absurd same
  go (Answered m) is same = ap times.end_of (sym same) ∙ tells.answers i m (inside, any_default events i (Answered m) Passed inside ∙ is)
  go (AtOnce m) is same = ap times.end_of (sym same) ∙ tells.at_once i m (inside, any_default events i (AtOnce m) Passed inside ∙ is)
  go Passed is same = absurd same

module _ (known : KnownCalls) (start : ℕ → ℕ) where
  -- the end of a call that has a place
  call_ends : (n at : ℕ) → n ≤ length known.calls → (times_of known start).end_of n ≡ Some at → end_of known.calls n ≡ Some at
  call_ends n at inside is =
      let found = wanted_end (call_at known.calls n) at (at_call is) in
      ap (option_and_then (λ (r : RecordedCall). r.«end»)) found.1 ∙ found.3 where
        at_call : (times_of known start).end_of n ≡ Some at → option_and_then answered_end (call_at known.calls n) ≡ Some at
        at_call e = sym (ap (λ b. cond b (option_and_then answered_end (call_at known.calls n)) (cond (leb (n - length known.calls) known.eras) (Some (start (n - length known.calls + 1))) None))
            (le-leb n (length known.calls) inside)) ∙ e

  -- what has an end is a call, or the end of an era is named by it
  named : (n at : ℕ) → (times_of known start).end_of n ≡ Some at → IsAnsweredAt known n at
  named n at is = by_call (leb n (length known.calls)) refl where
    no_end : leb n (length known.calls) ≡ false → leb (n - length known.calls) known.eras ≡ false → None ≡ Some at
    no_end past over =
        sym (ap (λ b. cond b (option_and_then answered_end (call_at known.calls n)) (cond (leb (n - length known.calls) known.eras) (Some (start (n - length known.calls + 1))) None)) past
        ∙ ap (λ b. cond b (Some (start (n - length known.calls + 1))) None) over) ∙ is

    by_era : leb n (length known.calls) ≡ false → (b : Bool) → leb (n - length known.calls) known.eras ≡ b → IsAnsweredAt known n at
    by_era past true inside =
        let above = leb-false n (length known.calls) past in
        let within = leb-true (n - length known.calls) known.eras inside in
        inr (above, omega (arith, within, above))
    by_era past false over = absurd (none-some at (no_end past over))

    by_call : (b : Bool) → leb n (length known.calls) ≡ b → IsAnsweredAt known n at
    by_call true within = inl (call_ends n at (leb-true n (length known.calls) within) is)
    by_call false past = by_era past (leb (n - length known.calls) known.eras) refl

pub named_at : (history : HistoryValue) (events : List Event) (i call : ℕ) → TellsOf history events → i < length events → IsAnswer (get_or events i Passed) call → IsAnsweredAt history.known call (i + 1)
named_at history events i call tells inside answer =
    named history.known (era_start (recording_of history).events) call (i + 1)
    (answer_ends (times_of history.known (era_start (recording_of history).events)) events i call tells.tells inside answer)

-- so of a call whose reply shows a verifier
pub shown_at_end : (known : KnownCalls) (shown : Shown) → IsShownIn known shown → IsAnsweredAt known shown.number shown.at
shown_at_end known shown is = inl (ap (option_and_then (λ (r : RecordedCall). r.«end»)) is.1 ∙ is.2.ended)
