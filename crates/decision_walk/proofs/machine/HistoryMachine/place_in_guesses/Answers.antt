use Rattle.std.proofs.Common.{arith, subst}
use Rattle.certificate.specs.Plan.{call_of}
use Rattle.decision_core.proofs.Sets.{one_more, all_gone_over}
use Rattle.decision_walk.specs.Placings.{HasPlaced}
use Rattle.decision_walk.proofs.StepLaws.{placed_kept}
use Rattle.decision_walk.specs.View.{WalkView, Adds}
use Rattle.decision_walk.proofs.Origins.{adds_none_from, adds_one_from}
use Rattle.decision_walk.proofs.machine.HistoryMachine.place_in_guesses.Goals as goal

pub loop-guess-init : goal.loop-guess-init
loop-guess-init c = (adds_none_from c.args.guesses.now c.args.states.now.items, tt)

pub loop-guess-preserved : goal.loop-guess-preserved
loop-guess-preserved c =
    let known = c.args.self.now.history.now.known in
    let marks = c.args.self.now.marks.items in
    let n = call_of c.args.place in
    let call = c.args.call.now in
    let outcome = c.args.outcome.now in
    let old = c.loop-guess.states.items in
    let new = c.place_as.new.states.items in (
      adds_one_from c.args.guesses.now c.args.states.now.items old new c.loop-guess.guess-index c.guess-item.result c.loop-guess-test.true c.loop-guess.invariant.0
          (subst (λ (guess : WalkView). Adds guess.origin old new) c.guess-item.is c.in_ok-place_as.ensures.0),
      one_more (λ guess. HasPlaced known marks old guess n call outcome) (λ guess. HasPlaced known marks new guess n call outcome) c.args.guesses.now c.loop-guess.guess-index c.guess-item.result c.loop-guess-test.true
          (λ guess has. placed_kept known marks old new guess n call outcome c.in_ok-place_as.ensures.0.0 has) c.loop-guess.invariant.1 (subst (λ guess. HasPlaced known marks new guess n call outcome) c.guess-item.is c.in_ok-place_as.ensures.1),
    )

pub returns : goal.returns
returns c =
    let known = c.args.self.now.history.now.known in
    let marks = c.args.self.now.marks.items in (
      c.loop-guess.invariant.0,
      all_gone_over (λ guess. HasPlaced known marks c.loop-guess.states.items guess (call_of c.args.place) c.args.call.now c.args.outcome.now) c.args.guesses.now c.loop-guess.guess-index
          (omega (arith, c.loop-guess-test.false)) c.loop-guess.invariant.1,
    )
