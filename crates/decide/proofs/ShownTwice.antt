-- two verifiers in one era
use Rattle.std.proofs.Common.{◌≡◌, ◌≢◌, ℕ, Option, Some, None, sym, ◌∙◌, ap, refl}
use Rattle.std.specs.Prelude.{IfSome}
use Rattle.nfs_history.specs.declared.recorded.RecordedCall.{RecordedCall}
use Rattle.nfs_history.specs.declared.knowing.KnownCalls.{KnownCalls}
use Rattle.nfs_history.specs.Precedence.{call_at}
use Rattle.decision_walk.specs.decision_law_specs.Laws.{ShowsTwoVerifiers}
use Rattle.decide.specs.declared.verifiers.Shown.{Shown}
use Rattle.decide.specs.Verifiers.{IsShown, IsShownIn}

pub two_shown : (known : KnownCalls) (one other : Shown) → IsShownIn known one → IsShownIn known other → one.era ≡ other.era → one.verifier ≢ other.verifier → ShowsTwoVerifiers known
two_shown known one other first second era differ =
    let a = first.2 in
    let b = second.2 in
    record {
      n = one.number;
      recorded = first.0;
      call = a.call;
      outcome = a.outcome;
      at = one.at;
      answered = record { stands = first.1; judged = a.judged; answer = a.answer; ended = a.ended };
      m = other.number;
      other = second.0;
      other_call = b.call;
      other_outcome = b.outcome;
      other_at = other.at;
      other_answered = record { stands = second.1; judged = b.judged; answer = b.answer; ended = b.ended };
      same_era = sym a.era_is ∙ era ∙ b.era_is;
      one = one.verifier;
      two = other.verifier;
      shows_one = a.shows;
      shows_two = b.shows;
      differ = differ;
    }

-- what a call shows, by its number
pub shown_in : (known : KnownCalls) (recorded : RecordedCall) (number : ℕ) (shown : Shown) → call_at known.calls number ≡ Some recorded → IsShown recorded number shown → IsShownIn known shown
shown_in known recorded number shown stands is = (
  recorded,
  ap (call_at known.calls) is.number_is ∙ stands,
  record {
    call = is.call;
    outcome = is.outcome;
    judged = is.judged;
    answer = is.answer;
    ended = is.ended;
    shows = is.shows;
    number_is = refl;
    era_is = is.era_is;
  },
)

pub shown_if : (known : KnownCalls) (recorded : RecordedCall) (number : ℕ) (found : Option Shown) → call_at known.calls number ≡ Some recorded → IfSome found (IsShown recorded number)
    → IfSome found (IsShownIn known)
shown_if known recorded number None stands is = is
shown_if known recorded number (Some shown) stands is = shown_in known recorded number shown stands is
