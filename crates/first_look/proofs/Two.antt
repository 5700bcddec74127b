-- Two verifiers in one era.
use Rattle.std.proofs.Common.{◌≡◌, ◌≢◌, ℕ, Option, Some, None, sym, ◌∙◌, ap, refl}
use Rattle.std.specs.Prelude.{IfSome}
use Rattle.history_file.specs.Event.{Recording}
use Rattle.nfs_history.specs.declared.recorded.RecordedCall.{RecordedCall}
use Rattle.nfs_history.specs.declared.knowing.KnownCalls.{KnownCalls}
use Rattle.nfs_history.specs.Precedence.{call_at}
use Rattle.nfs_history.specs.History.{AreCallsOf}
use Rattle.certificate.specs.declared.plan.Certificate.{Certificate}
use Rattle.witness_check.specs.Witness.{IsWitness}
use Rattle.decision_law.specs.Times.{era_start}
use Rattle.decision_law.proofs.Orders.{no_two_verifiers}
use Rattle.decision_law.proofs.Starts.{are_timed}
use Rattle.first_look.specs.declared.verifiers.Shown.{Shown}
use Rattle.first_look.specs.declared.verifiers.TwoVerifiers.{TwoVerifiers}
use Rattle.first_look.specs.TwoVerifiers.{AreTwo, IsShown, IsShownIn}

pub are_two : (known : KnownCalls) (one other : Shown) (two : TwoVerifiers) → IsShownIn known one → IsShownIn known other → one.era ≡ other.era → one.verifier ≢ other.verifier
    → one.number ≡ two.one → other.number ≡ two.other → one.era ≡ two.era → AreTwo known two
are_two known one other two first second era differ is_one is_other is_era =
    let a = first.2 in
    let b = second.2 in (
      record {
        n = one.number;
        recorded = first.0;
        call = a.call;
        outcome = a.outcome;
        at = one.at;
        answered = record { stands = first.1; judged = a.judged; answer = a.answer; ended = a.ended };
        m = other.number;
        other = second.0;
        other_call = b.call;
        other_outcome = b.outcome;
        other_at = other.at;
        other_answered = record { stands = second.1; judged = b.judged; answer = b.answer; ended = b.ended };
        same_era = sym a.era_is ∙ era ∙ b.era_is;
        one = one.verifier;
        two = other.verifier;
        shows_one = a.shows;
        shows_two = b.shows;
        differ = differ;
      },
      is_one,
      is_other,
      sym a.era_is ∙ is_era,
    )

-- what a call shows, by its number
pub shown_in : (known : KnownCalls) (recorded : RecordedCall) (number : ℕ) (shown : Shown) → call_at known.calls number ≡ Some recorded → IsShown recorded number shown → IsShownIn known shown
shown_in known recorded number shown stands is = (
  recorded,
  ap (call_at known.calls) is.number_is ∙ stands,
  record {
    call = is.call;
    outcome = is.outcome;
    judged = is.judged;
    answer = is.answer;
    ended = is.ended;
    shows = is.shows;
    number_is = refl;
    era_is = is.era_is;
  },
)

pub shown_if : (known : KnownCalls) (recorded : RecordedCall) (number : ℕ) (found : Option Shown) → call_at known.calls number ≡ Some recorded → IfSome found (IsShown recorded number)
    → IfSome found (IsShownIn known)
shown_if known recorded number None stands is = is
shown_if known recorded number (Some shown) stands is = shown_in known recorded number shown stands is

-- then no plan is a witness
pub no_witness : (known : KnownCalls) (found : Option TwoVerifiers) → IfSome found (AreTwo known) → (seen : Recording) → AreCallsOf seen known
    → IfSome found (λ _. (plan : Certificate) → ¬ IsWitness known plan)
no_witness known None two seen are = two
no_witness known (Some found) two seen are = λ plan witness.
    no_two_verifiers known (era_start seen.events) (are_timed seen.events known are.calls) plan two.0 witness
