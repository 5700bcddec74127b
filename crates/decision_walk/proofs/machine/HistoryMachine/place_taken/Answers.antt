use Rattle.std.proofs.Common.{◌≡◌, false, None, rules}
use Rattle.nfs3_types.specs.declared.replies.Outcome.TheVariants.{Taken}
use Rattle.decision_walk.specs.Settling.{may_change}
use Rattle.decision_walk.specs.Placings.{bytes_brought, HasPlaced, HasTaken}
use Rattle.decision_walk.proofs.StepLaws.{if_ok}
use Rattle.decision_walk.proofs.Taking.{none_taken, whole_taken}
use Rattle.decision_walk.specs.View.{Adds}
use Rattle.decision_walk.proofs.Origins.{adds_nothing}
use Rattle.decision_walk.proofs.machine.HistoryMachine.place_taken.Goals as goal

pub returns-in-None : goal.returns-in-None
returns-in-None c =
    let known = c.args.self.now.history.now.known in
    let marks = c.args.self.now.marks.items in
    let old = c.args.states.now.items in
    let new = c.place_any.new.states.items in
    let state = c.args.state.now in
    let is : bytes_brought c.args.call.now ≡ None = search rules in
    if_ok c.place_any.result (λ _. Adds state.origin old new × HasPlaced known marks new state c.args.n c.args.call.now (Taken None))
    (λ _. Adds state.origin old new × HasTaken known marks new state c.args.n c.args.call.now)
    (λ _ found. (found.0, whole_taken known marks new state c.args.n c.args.call.now is found.1)) c.place_any.ensures

pub returns-then-not-may_change : goal.returns-then-not-may_change
returns-then-not-may_change c =
    let no : may_change c.args.call.now ≡ false = search rules in
    (adds_nothing c.args.state.now.origin c.args.states.now.items, none_taken c.args.self.now.history.now.known c.args.self.now.marks.items c.args.states.now.items c.args.state.now c.args.n c.args.call.now no)
