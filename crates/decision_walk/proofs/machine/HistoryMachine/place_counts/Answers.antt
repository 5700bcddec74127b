use Rattle.std.proofs.Common.{arith}
use Rattle.decision_walk.proofs.StepLaws.{no_counts, one_count}
use Rattle.decision_walk.proofs.Origins.{adds_nothing, adds_on}
use Rattle.decision_walk.proofs.machine.HistoryMachine.place_counts.Goals as goal

pub loop-count-init : goal.loop-count-init
loop-count-init c = (adds_nothing c.args.state.now.origin c.args.states.now.items, no_counts c.args.self.now.history.now.known c.args.self.now.marks.items c.args.states.now.items c.args.state.now c.args.n c.args.call.now)

pub loop-count-preserved : goal.loop-count-preserved
loop-count-preserved c =
    let known = c.args.self.now.history.now.known in
    let marks = c.args.self.now.marks.items in
    let old = c.loop-count.states.items in
    let new = c.place_as.new.states.items in (
      adds_on c.args.state.now.origin c.args.states.now.items old new c.loop-count.invariant.0 c.in_ok-place_as.ensures.0,
      one_count known marks old new c.args.state.now c.args.n c.args.call.now c.loop-count.count c.in_ok-place_as.ensures.0.0 c.loop-count.invariant.1 c.in_ok-place_as.ensures.1,
    )

pub returns : goal.returns
returns c = (c.loop-count.invariant.0, λ count below. c.loop-count.invariant.1 count (omega (arith, below, c.loop-count-test.false)))
