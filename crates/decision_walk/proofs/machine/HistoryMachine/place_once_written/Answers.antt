use Rattle.certificate.specs.Plan.{call_of}
use Rattle.decision_walk.specs.Placings.{HasPlaced, HasPlacedFor}
use Rattle.decision_walk.proofs.CountingLaws.{placed_once}
use Rattle.decision_walk.proofs.StepLaws.{if_ok}
use Rattle.decision_walk.specs.View.{Adds}
use Rattle.decision_walk.proofs.Origins.{adds_as}
use Rattle.decision_walk.proofs.machine.HistoryMachine.place_once_written.Goals as goal

pub returns : goal.returns
returns c =
    let known = c.args.self.now.history.now.known in
    let marks = c.args.self.now.marks.items in
    let state = c.args.state.now in
    let n = call_of c.args.place in
    let call = c.args.call.now in
    let outcome = c.args.outcome.now in
    let old = c.args.states.now.items in
    let new = c.place_apart.new.states.items in
    let after = c.in_ok-resolved.resolved in
    if_ok c.place_apart.result (λ _. Adds after.origin old new × HasPlaced known marks new after n call outcome)
    (λ _. Adds state.origin old new × HasPlacedFor known marks new state c.args.written.0.call c.args.written.1 n call outcome)
    (λ _ found. (adds_as after.origin state.origin old new c.in_ok-resolved.ensures.origin found.0, placed_once known marks new state n call c.args.written.0.call c.args.written.1 after c.in_ok-resolved.ensures.resolved outcome found.1)) c.place_apart.ensures
