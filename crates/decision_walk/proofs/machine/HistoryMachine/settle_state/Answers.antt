use Rattle.std.proofs.Common.{◌≡◌, ◌<◌, IfOk, subst, arith, rules}
use Rattle.decision_walk.specs.View.{WalkView}
use Rattle.decision_walk.specs.Settling.{past_done, SettlesAt}
use Rattle.decision_walk.proofs.StepLaws.{if_ok}
use Rattle.decision_walk.proofs.SettleLaws.{settles_on}
use Rattle.decision_walk.proofs.PastLaws.{settles_past}
use Rattle.decision_walk.proofs.machine.HistoryMachine.settle_state.Goals as goal

pub returns-then-state-clause-settles : goal.returns-then-state-clause-settles
returns-then-state-clause-settles c =
    let known = c.args.self.now.history.now.known in
    let marks = c.args.self.now.marks.items in
    let calls = c.args.calls.now in
    let state = c.args.state in
    let less : state.past < state.era = search rules in
    let each : IfOk c.settle_each.result (SettlesAt known marks calls (past_done known state)) = subst (λ s. IfOk c.settle_each.result (SettlesAt known marks calls s)) c.with_past_done.ensures c.settle_each.ensures.settles in
    if_ok c.settle_each.result (SettlesAt known marks calls (past_done known state)) (SettlesAt known marks calls state)
    (λ after two. settles_on known marks calls state (past_done known state) after (settles_past known marks state (omega (arith, less))) two) each

pub returns-then-state-clause-origin : goal.returns-then-state-clause-origin
returns-then-state-clause-origin c =
    subst (λ (s : WalkView). IfOk c.settle_each.result (λ (after : WalkView). after.origin ≡ s.origin)) c.with_past_done.ensures c.settle_each.ensures.origin
