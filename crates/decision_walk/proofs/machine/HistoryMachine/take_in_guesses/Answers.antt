use Rattle.std.proofs.Common.{arith, subst}
use Rattle.nfs3_types.specs.declared.replies.Outcome.TheVariants.{Taken}
use Rattle.decision_core.proofs.Sets.{one_more, all_gone_over}
use Rattle.decision_walk.specs.Placings.{HasTaken}
use Rattle.decision_walk.proofs.StepLaws.{placed_kept}
use Rattle.decision_walk.specs.View.{WalkView, Adds}
use Rattle.decision_walk.proofs.Origins.{adds_none_from, adds_one_from}
use Rattle.decision_walk.proofs.machine.HistoryMachine.take_in_guesses.Goals as goal

pub loop-guess-init : goal.loop-guess-init
loop-guess-init c = (adds_none_from c.args.guesses.now c.args.states.now.items, tt)

pub loop-guess-preserved : goal.loop-guess-preserved
loop-guess-preserved c =
    let known = c.args.self.now.history.now.known in
    let marks = c.args.self.now.marks.items in
    let call = c.args.call.now in
    let old = c.loop-guess.states.items in
    let new = c.take_write.new.states.items in (
      adds_one_from c.args.guesses.now c.args.states.now.items old new c.loop-guess.guess-index c.guess-item.result c.loop-guess-test.true c.loop-guess.invariant.0
          (subst (λ (guess : WalkView). Adds guess.origin old new) c.guess-item.is c.in_ok-take_write.ensures.0),
      one_more (λ guess. HasTaken known marks old guess c.args.n call) (λ guess. HasTaken known marks new guess c.args.n call) c.args.guesses.now c.loop-guess.guess-index c.guess-item.result c.loop-guess-test.true
          (λ guess has count may. placed_kept known marks old new guess c.args.n call (Taken count) c.in_ok-take_write.ensures.0.0 (has count may)) c.loop-guess.invariant.1 (subst (λ guess. HasTaken known marks new guess c.args.n call) c.guess-item.is c.in_ok-take_write.ensures.1),
    )

pub returns : goal.returns
returns c = (
  c.loop-guess.invariant.0,
  all_gone_over (λ guess. HasTaken c.args.self.now.history.now.known c.args.self.now.marks.items c.loop-guess.states.items guess c.args.n c.args.call.now) c.args.guesses.now c.loop-guess.guess-index
      (omega (arith, c.loop-guess-test.false)) c.loop-guess.invariant.1,
)
