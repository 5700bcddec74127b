use Rattle.std.proofs.Common.{◌+◌, IfOk, rules}
use Rattle.decision_walk.specs.Placings.{HasCounts, HasTaken}
use Rattle.decision_walk.proofs.StepLaws.{if_ok}
use Rattle.decision_walk.proofs.Taking.{counts_taken}
use Rattle.decision_walk.specs.View.{Adds}
use Rattle.decision_walk.proofs.Origins.{adds_on}
use Rattle.decision_walk.proofs.machine.HistoryMachine.take_write.Goals as goal

pub returns-then-branch : goal.returns-then-branch
returns-then-branch c = (c.in_ok-place_open.ensures.0, c.in_ok-place_open.ensures.1 (search rules))

pub returns : goal.returns
returns c =
    let known = c.args.self.now.history.now.known in
    let marks = c.args.self.now.marks.items in
    let old = c.args.states.now.items in
    let middle = c.place_open.new.states.items in
    let new = c.place_counts.new.states.items in
    let state = c.args.state.now in
    let is = c.requires.brought in
    let counted : IfOk c.place_counts.result (λ _. Adds state.origin middle new × HasCounts known marks new state c.args.n c.args.call.now (c.args.brought + 1)) = c.place_counts.ensures in
    if_ok c.place_counts.result (λ _. Adds state.origin middle new × HasCounts known marks new state c.args.n c.args.call.now (c.args.brought + 1))
    (λ _. Adds state.origin old new × HasTaken known marks new state c.args.n c.args.call.now)
    (λ _ found. (adds_on state.origin old middle new c.in_ok-place_open.ensures.0 found.0, counts_taken known marks new state c.args.n c.args.call.now c.args.brought is found.1)) counted
