use Rattle.std.proofs.Common.{◌≡◌, ◌⊎◌, inl, inr, true, false}
use Rattle.book_ledger.specs.PlaceSteps.{without_own}
use Rattle.book_ledger.proofs.StepParts.{took, let_go}
use Rattle.book_ledger.proofs.placing.step_with_handle.Goals as goal
use Rattle.book_ledger.proofs.placing.step_with_handle.Goals.{then-not-made, else-not-made}

pub returns-after-not-made-clause-taken : goal.returns-after-not-made-clause-taken
returns-after-not-made-clause-taken c =
    let either : ((c.stands-made.result ≡ true) × (c.if-not-made.binds ≡ c.bind_own.new.binds)) ⊎ ((c.stands-made.result ≡ false) × (c.if-not-made.binds ≡ without_own c.args.object c.bind_own.new.binds)) =
    elim c.if-not-made.branch [ then-not-made w ↦ inr ((cc), (cc)) | else-not-made w ↦ inl ((cc), (cc)) ] in
    took c.args.profile c.args.binds.now c.bind_own.new.binds c.if-not-made.binds c.args.tree.now c.step_under.new.self c.args.object c.args.call.now c.args.outcome.now
    (record { undo = c.in-Ok.undo; made = c.stands-made.result }) c.in_ok-bind_own.ensures.ok c.requires c.in-Ok.ensures.next c.in-Ok.ensures.undo c.stands-made.ensures either

pub returns-in-Err-clause-binds : goal.returns-in-Err-clause-binds
returns-in-Err-clause-binds c =
    let_go c.args.binds.now c.bind_own.new.binds c.forget_own-in-Err.new.binds c.args.object c.in_ok-bind_own.ensures.ok c.requires c.forget_own-in-Err.ensures
