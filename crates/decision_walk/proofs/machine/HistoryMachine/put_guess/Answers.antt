use Rattle.std.proofs.Common.{inl, ap}
use Rattle.std.specs.Prelude.{Contains}
use Rattle.decision_walk.specs.Guessing.{HasGuess}
use Rattle.decision_walk.proofs.StepLaws.{if_ok}
use Rattle.decision_walk.specs.View.{WalkView, Adds}
use Rattle.decision_walk.proofs.Origins.{adds_as}
use Rattle.decision_walk.proofs.machine.HistoryMachine.put_guess.Goals as goal

pub returns : goal.returns
returns c =
    let old = c.args.states.now.items in
    let new = c.put_state.new.states.items in
    let guess = c.in_ok-guess.guess in
    if_ok c.put_state.result (λ _. Adds guess.origin old new × Contains new guess) (λ _. Adds c.args.state.now.origin old new × HasGuess c.args.self.now.history.now.known new c.args.state.now c.args.handle.now c.args.object)
    (λ _ put. (adds_as guess.origin c.args.state.now.origin old new (ap (λ (s : WalkView). s.origin) c.in_ok-guess.ensures.rest) put.0, inl (guess, put.1, record { rest = c.in_ok-guess.ensures.rest; covers = c.in_ok-guess.ensures.covers }))) c.put_state.ensures
