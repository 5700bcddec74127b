use Rattle.std.proofs.Common.{◌≡◌, ◌∙◌, Err, refl}
use Rattle.std.proofs.lemmas.Result.{err_from_is_err_and}
use Rattle.replay_law.specs.declared.replay.StepFault.TheVariants.{NotAllowed}
use Rattle.replay_law.proofs.Stands.{kept_more, no_more}
use Rattle.replay_law.proofs.stepping.Replay.step_kept.Goals as goal

pub returns-clause-ok : goal.returns-clause-ok
returns-clause-ok g c =
    let R = g.R.Replayable in
    λ next start named kept same. kept_more R.undoes next start c.args.self.now _ kept _ (same c.args.self.now.state ∙ c.in_ok-step.ensures.next) refl

pub returns-in_err-step-clause-not_allowed : goal.returns-in_err-step-clause-not_allowed
returns-in_err-step-clause-not_allowed g c = λ is next start named kept lost same.
    let R = g.R.Replayable in
    let fault = err_from_is_err_and c.from_residual.result c.from_residual.ensures.1 in
    let was : c.step.result ≡ Err c.in_err-step.field-0.0 = c.in_err-step.was in
    let refused : c.step.result ≡ Err NotAllowed = cc (fault.1, fault.2, was, is) in
    no_more R.undoes next start c.args.self.now kept lost _ (same c.args.self.now.state ∙ c.step.ensures.not_allowed refused)
