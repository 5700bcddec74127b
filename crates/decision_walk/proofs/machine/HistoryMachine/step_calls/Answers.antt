use Rattle.std.proofs.Common.{arith}
use Rattle.decision_walk.proofs.Calls.{steps_next, steps_all}
use Rattle.decision_walk.proofs.machine.HistoryMachine.step_calls.Goals as goal

pub loop-call-preserved : goal.loop-call-preserved
loop-call-preserved c = (
  steps_next c.args.self.now.history.now.known c.args.self.now.marks.items c.loop-call.states.items c.step_one.new.states.items c.args.calls.now c.loop-call.call-index c.args.state.now c.loop-call-test.true
      c.in_ok-step_one.ensures.0.0 c.in_ok-step_one.ensures.1 c.loop-call.invariant.0,
  c.in_ok-step_one.ensures.0.1 c.loop-call.invariant.1,
)

pub returns-clause-steps : goal.returns-clause-steps
returns-clause-steps c =
    steps_all c.args.self.now.history.now.known c.args.self.now.marks.items c.loop-call.states.items c.args.calls.now c.loop-call.call-index c.args.state.now (omega (arith, c.loop-call-test.false)) c.loop-call.invariant.0

pub returns-clause-origin : goal.returns-clause-origin
returns-clause-origin c = c.loop-call.invariant.1
