use Rattle.std.proofs.Common.{sym, subst, arith, inl, inr}
use Rattle.std.proofs.lemmas.Bool.{cases_lt}
use Rattle.cut_check.specs.Verifier.{Shows}
use Rattle.verdict_laws.proofs.crashes.lost_writes_show_different_verifiers.Goals as goal

pub returns : goal.returns
returns c = λ history plan e f one other era later witness apart there then_there lost lost_later shows shows_later same.
    elim (cases_lt e f) [
      | inl before ↦ witness.verifiers.across e f one era later before there then_there lost shows (subst (Shows history.calls later.places) (sym same) shows_later)
      | inr not_before ↦ elim (cases_lt f e) [
        | inl behind ↦ witness.verifiers.across f e other later era behind then_there there lost_later shows_later (subst (Shows history.calls era.places) same shows)
        | inr not_behind ↦ apart (omega arith)
      ]
    ]
