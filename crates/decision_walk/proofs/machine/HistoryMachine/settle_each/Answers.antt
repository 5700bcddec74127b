use Rattle.std.proofs.Common.{take, refl, ◌∙◌, arith}
use Rattle.decision_walk.proofs.SettleLaws.{settles_nothing, settles_next, settles_all}
use Rattle.decision_walk.proofs.machine.HistoryMachine.settle_each.Goals as goal

pub loop-call-init : goal.loop-call-init
loop-call-init c = (settles_nothing c.args.self.now.history.now.known c.args.self.now.marks.items (take 0 c.args.calls.now) c.args.state, refl)

pub loop-call-preserved : goal.loop-call-preserved
loop-call-preserved c = (
  settles_next c.args.self.now.history.now.known c.args.self.now.marks.items c.args.calls.now c.loop-call.call-index 0 c.args.state c.loop-call.state _ c.loop-call-test.true c.loop-call.invariant.0 c.in_ok-state.ensures.settles,
  c.in_ok-state.ensures.origin ∙ c.loop-call.invariant.1,
)

pub returns-clause-settles : goal.returns-clause-settles
returns-clause-settles c =
    settles_all c.args.self.now.history.now.known c.args.self.now.marks.items c.args.calls.now c.loop-call.call-index c.args.state c.loop-call.state (omega (arith, c.loop-call-test.false)) c.loop-call.invariant.0

pub returns-clause-origin : goal.returns-clause-origin
returns-clause-origin c = c.loop-call.invariant.1
