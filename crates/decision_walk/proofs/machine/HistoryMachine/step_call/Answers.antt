use Rattle.std.proofs.Common.{◌≡◌, Some, rules}
use Rattle.nfs_history.specs.Precedence.{call_at}
use Rattle.decision_walk.specs.Placings.{HasAllOf, HasStepOf}
use Rattle.decision_walk.proofs.Calls.{all_of_steps}
use Rattle.decision_walk.proofs.StepLaws.{if_ok}
use Rattle.decision_walk.specs.View.{Adds}
use Rattle.decision_walk.proofs.machine.HistoryMachine.step_call.Goals as goal

pub returns : goal.returns
returns c =
    let known = c.args.self.now.history.now.known in
    let marks = c.args.self.now.marks.items in
    let old = c.args.states.now.items in
    let new = c.place_recorded.new.states.items in
    let stands : call_at known.calls c.args.n ≡ Some c.in-Some.recorded.now = search rules in
    if_ok c.place_recorded.result (λ _. Adds c.args.state.now.origin old new × HasAllOf known marks new c.args.state.now c.args.n c.in-Some.recorded.now) (λ _. Adds c.args.state.now.origin old new × HasStepOf known marks new c.args.n c.args.state.now)
    (λ _ found. (found.0, all_of_steps known marks new c.args.state.now c.args.n c.in-Some.recorded.now c.requires.late c.requires.inside c.requires.call stands found.1)) c.place_recorded.ensures
