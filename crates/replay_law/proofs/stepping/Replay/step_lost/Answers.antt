use Rattle.std.proofs.Common.{◌≡◌, ◌∷◌, [], ◌++◌, Err, ap, ◌∙◌}
use Rattle.std.proofs.lemmas.Result.{err_from_is_err_and}
use Rattle.replay_law.specs.declared.replay.StepFault.TheVariants.{NotAllowed}
use Rattle.replay_law.proofs.Stands.{lost_more, no_more}
use Rattle.replay_law.proofs.stepping.Replay.step_lost.Goals as goal

pub returns-clause-ok : goal.returns-clause-ok
returns-clause-ok g c =
    let R = g.R.Replayable in
    let pushed = rw c.unwrap.ensures at c.push.ensures.items in
    let more : c.push.new.self.items ≡ c.args.self.now.lost.items ++ c.in_ok-undo.undo ∷ [] = pushed ∙ ap (λ us. us ++ c.in_ok-undo.undo ∷ []) c.in_ok-reserve.ensures.items in
    λ next start named kept lost same. lost_more R.undoes next start c.args.self.now _ kept lost _ c.in_ok-undo.undo
    (same c.args.self.now.state ∙ c.in_ok-undo.ensures.next) c.in_ok-undo.ensures.undo more

pub returns-in_err-undo-clause-not_allowed : goal.returns-in_err-undo-clause-not_allowed
returns-in_err-undo-clause-not_allowed g c = λ is next start named kept lost same.
    let R = g.R.Replayable in
    let fault = err_from_is_err_and c.from_residual-in_err-undo.result c.from_residual-in_err-undo.ensures.1 in
    let was : c.step.result ≡ Err c.in_err-undo.field-0.0 = c.in_err-undo.was in
    let refused : c.step.result ≡ Err NotAllowed = cc (fault.1, fault.2, was, is) in
    no_more R.undoes next start c.args.self.now kept lost _ (same c.args.self.now.state ∙ c.step.ensures.not_allowed refused)
