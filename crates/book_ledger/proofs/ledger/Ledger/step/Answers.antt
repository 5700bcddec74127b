use Rattle.tree_starts.specs.declared.profile.Profile.{Profile}
use Rattle.std.specs.Prelude.{IfOk}
use Rattle.std.proofs.Common.{ℕ, Some, subst}
use Rattle.std.proofs.lemmas.Result.{IfOk-weaker}
use Rattle.book_ledger.specs.declared.placing.TreeStep.{TreeStep}
use Rattle.book_ledger.specs.Recordable.{may_make}
use Rattle.book_ledger.specs.Inside.{object_in}
use Rattle.book_ledger.specs.PlaceSteps.{TakesStep, HasStepped}
use Rattle.book_ledger.proofs.StepParts.{has_stepped}
use Rattle.book_ledger.proofs.ledger.Ledger.step.Goals as goal

pub returns-clause-taken : goal.returns-clause-taken
returns-clause-taken c =
    let old = c.args.self.now in
    let call = c.call_asked-call.result.now in
    IfOk-weaker c.take_step.result (λ (step : TreeStep). TakesStep old.history.known.head.profile (may_make call) old.binds c.in-Some.tree (object_in old c.args.number) call c.args.outcome.now c.take_step.new.binds c.take_step.new.tree step)
    (λ (step : TreeStep). HasStepped old c.args.number c.args.outcome.now step (record old { binds = c.take_step.new.binds; tree = Some c.take_step.new.tree }))
    (λ step takes. has_stepped old c.args.number c.args.outcome.now call c.in-Some.tree c.take_step.new.tree c.take_step.new.binds step c.call_asked-call.ensures c.in-Some.is takes)
    (subst (λ (profile : Profile). IfOk c.take_step.result (λ (step : TreeStep). TakesStep profile (may_make call) old.binds c.in-Some.tree (object_in old c.args.number) call c.args.outcome.now c.take_step.new.binds c.take_step.new.tree step)) c.profile-profile.ensures
    (subst (λ (object : ℕ). IfOk c.take_step.result (λ (step : TreeStep). TakesStep c.profile-profile.result (may_make call) old.binds c.in-Some.tree object call c.args.outcome.now c.take_step.new.binds c.take_step.new.tree step)) c.object_of_call-object.ensures
    c.take_step.ensures.taken))
