use Rattle.std.proofs.Common.{ℕ, List, arith}
use Rattle.certificate.specs.Plan.{call_of}
use Rattle.decision_walk.specs.View.{WalkView}
use Rattle.decision_walk.specs.Placings.{HasPlacedFor}
use Rattle.decision_walk.proofs.CountingLaws.{next_count, placed_for_kept, each_placed}
use Rattle.decision_walk.proofs.Origins.{adds_on}
use Rattle.decision_walk.proofs.machine.HistoryMachine.place_changing.Goals as goal

pub loop-more-preserved : goal.loop-more-preserved
loop-more-preserved c =
    let known = c.args.self.now.history.now.known in
    let marks = c.args.self.now.marks.items in
    let state = c.args.state.now in
    let old = c.loop-more.states.items in
    let new = c.place_once_written.new.states.items in
    let P : List WalkView → ℕ → Type 0 = λ states count. HasPlacedFor known marks states state c.args.one.call count (call_of c.args.place) c.args.call.now c.args.outcome.now in (
      adds_on state.origin c.args.states.now.items old new c.loop-more.invariant.0 c.in_ok-place_once_written.ensures.0,
      next_count P old new c.args.one.least c.loop-more.more (λ k has. placed_for_kept known marks new state (call_of c.args.place) c.args.call.now old c.args.one.call k c.args.outcome.now c.in_ok-place_once_written.ensures.0.0 has) c.loop-more.invariant.1 c.in_ok-place_once_written.ensures.1,
    )

pub returns : goal.returns
returns c = (
  c.loop-more.invariant.0,
  each_placed c.args.self.now.history.now.known c.args.self.now.marks.items c.loop-more.states.items c.args.state.now (call_of c.args.place) c.args.call.now c.args.one c.requires.found c.args.outcome.now _ c.in_ok-more-end.ensures
      (λ j below. c.loop-more.invariant.1 j (omega (arith, below, c.loop-more-test.false))),
)
