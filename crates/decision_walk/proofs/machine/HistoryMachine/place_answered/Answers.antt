use Rattle.std.proofs.Common.{◌≡◌, Some, rules}
use Rattle.nfs3_types.specs.declared.replies.Outcome.{Outcome}
use Rattle.decision_walk.specs.Placings.{HasPlaced}
use Rattle.decision_walk.proofs.StepLaws.{if_ok, by_reply}
use Rattle.decision_walk.specs.View.{Adds}
use Rattle.decision_walk.proofs.machine.HistoryMachine.place_answered.Goals as goal

pub returns-in-Some : goal.returns-in-Some
returns-in-Some c =
    let known = c.args.self.now.history.now.known in
    let marks = c.args.self.now.marks.items in
    let old = c.args.states.now.items in
    let new = c.place_any.new.states.items in
    let state = c.args.state.now in
    let answer : c.args.recorded.now.outcome ≡ Some c.in-Some.outcome = search rules in
    if_ok c.place_any.result (λ _. Adds state.origin old new × HasPlaced known marks new state c.args.n c.args.call.now c.in-Some.outcome)
    (λ _. Adds state.origin old new × ((outcome : Outcome) → c.args.recorded.now.outcome ≡ Some outcome → HasPlaced known marks new state c.args.n c.args.call.now outcome))
    (λ _ found. (found.0, by_reply known marks new state c.args.n c.args.call.now c.args.recorded.now.outcome c.in-Some.outcome answer found.1))
    c.place_any.ensures
