-- By what the era shows.
use Rattle.std.proofs.Common.{◌≡◌, IsTrue, ◌∙◌, sym, subst}
use Rattle.std.specs.Prelude.{◌↔◌}
use Rattle.std.proofs.lemmas.Bool.{false≢true}
use Rattle.std.proofs.lemmas.Result.{IfOk-weaker}
use Rattle.cut_check.specs.Shown.{IsShown, IsAtFaultWith}
use Rattle.cut_check.specs.Verifier.{loses_write}
use Rattle.cut_check.specs.declared.verifier.Shown.TheVariants as shown
use Rattle.cut_check.proofs.ShownLaws.{silent_fine, one_fault, one_loses, one_has}
use Rattle.cut_check.proofs.verifier.is_at_fault.Goals as goal

pub returns-in-Nothing : goal.returns-in-Nothing
returns-in-Nothing c =
    let calls = c.args.history.now.calls in
    let era = c.args.era.now in
    let shows : IsShown calls era.places shown.Nothing = subst (IsShown calls era.places) c.in-Nothing.is c.requires in
    (λ h. absurd (false≢true h), λ fault. absurd (silent_fine calls era c.args.later.now shows fault))

pub returns-then-contains : goal.returns-then-contains
returns-then-contains c =
    let calls = c.args.history.now.calls in
    let era = c.args.era.now in
    let later = c.args.later.now in
    let one = c.in-One.verifier in
    let shows : IsShown calls era.places (shown.One one) = subst (IsShown calls era.places) c.in-One.is c.requires in
    IfOk-weaker c.loses_write.result (λ loses. loses ≡ loses_write calls era) (λ fault. IsTrue fault ↔ IsAtFaultWith calls era later) (λ loses is. (
      λ h. one_fault calls era later one shows (sym c.if-contains.ensures) (sym is ∙ h),
      λ fault. is ∙ one_loses calls era later one shows fault,
    )) c.loses_write.ensures

pub returns-else-contains : goal.returns-else-contains
returns-else-contains c =
    let calls = c.args.history.now.calls in
    let era = c.args.era.now in
    let later = c.args.later.now in
    let one = c.in-One.verifier in
    let shows : IsShown calls era.places (shown.One one) = subst (IsShown calls era.places) c.in-One.is c.requires in
    (λ h. absurd (false≢true h), λ fault. absurd (false≢true (c.if-contains.ensures ∙ one_has calls era later one shows fault)))
