use Rattle.decision_walk.specs.Placings.{HasTaken, HasTakenFor}
use Rattle.decision_walk.proofs.CountingLaws.{taken_once}
use Rattle.decision_walk.proofs.StepLaws.{if_ok}
use Rattle.decision_walk.specs.View.{Adds}
use Rattle.decision_walk.proofs.Origins.{adds_as}
use Rattle.decision_walk.proofs.machine.HistoryMachine.put_opened_after.Goals as goal

pub returns : goal.returns
returns c =
    let known = c.args.self.now.history.now.known in
    let marks = c.args.self.now.marks.items in
    let state = c.args.state.now in
    let call = c.args.call.now in
    let old = c.args.states.now.items in
    let new = c.put_opened.new.states.items in
    let after = c.in_ok-resolved.resolved in
    if_ok c.put_opened.result (λ _. Adds after.origin old new × HasTaken known marks new after c.args.n call)
    (λ _. Adds state.origin old new × HasTakenFor known marks new state c.args.written.0.call c.args.written.1 c.args.n call)
    (λ _ found. (adds_as after.origin state.origin old new c.in_ok-resolved.ensures.origin found.0, taken_once known marks new state c.args.n call c.args.written.0.call c.args.written.1 after c.in_ok-resolved.ensures.resolved found.1)) c.put_opened.ensures
