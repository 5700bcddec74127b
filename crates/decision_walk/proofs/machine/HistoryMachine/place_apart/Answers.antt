use Rattle.std.proofs.Common.{◌≡◌, Some, None, IfOk, subst, rules}
use Rattle.certificate.specs.Plan.{call_of}
use Rattle.decision_walk.specs.Placings.{CoversPoints, HasChildren, HasPlaced}
use Rattle.decision_walk.proofs.PlacedLaws.{children_cover}
use Rattle.decision_walk.proofs.StepLaws.{none_placed, if_ok}
use Rattle.decision_walk.specs.View.{Adds}
use Rattle.decision_walk.proofs.Origins.{adds_nothing}
use Rattle.decision_walk.proofs.machine.HistoryMachine.place_apart.Goals as goal

pub returns-in-Some : goal.returns-in-Some
returns-in-Some c =
    let known = c.args.self.now.history.now.known in
    let marks = c.args.self.now.marks.items in
    let state = c.args.state.now in
    let n = call_of c.args.place in
    let old = c.args.states.now.items in
    let new = c.put_children.new.states.items in
    let is : c.in_ok-next.field-0 ≡ Some c.in-Some.next = search rules in
    let covers = subst (CoversPoints known marks state n c.args.call.now c.args.outcome.now) is c.in_ok-next.ensures.covers in
    let writes : c.as_slice.result.now ≡ state.writes = search rules in
    let put : IfOk c.put_children.result (λ _. Adds state.origin old new × HasChildren known marks new state n c.in-Some.next state.writes) =
    subst (λ ws. IfOk c.put_children.result (λ _. Adds state.origin old new × HasChildren known marks new state n c.in-Some.next ws)) writes c.put_children.ensures in
    if_ok c.put_children.result (λ _. Adds state.origin old new × HasChildren known marks new state n c.in-Some.next state.writes) (λ _. Adds state.origin old new × HasPlaced known marks new state n c.args.call.now c.args.outcome.now)
    (λ _ found. (found.0, children_cover known marks new state n c.args.call.now c.args.outcome.now c.in-Some.next covers found.1)) put

pub returns-in-None : goal.returns-in-None
returns-in-None c =
    let known = c.args.self.now.history.now.known in
    let marks = c.args.self.now.marks.items in
    let n = call_of c.args.place in
    let is : c.in_ok-next.field-0 ≡ None = search rules in
    let covers = subst (CoversPoints known marks c.args.state.now n c.args.call.now c.args.outcome.now) is c.in_ok-next.ensures.covers in
    (adds_nothing c.args.state.now.origin c.args.states.now.items, none_placed known marks c.args.states.now.items c.args.state.now n c.args.call.now c.args.outcome.now covers)
