use Rattle.std.proofs.Common.{List, rules, ap, subst, ◌≡◌}
use Rattle.certificate.specs.Plan.{call_of}
use Rattle.decision_core.proofs.Sets.{all_weaker}
use Rattle.decision_walk.specs.View.{WalkView, AllOf, Adds}
use Rattle.decision_walk.specs.Placings.{HasPlaced}
use Rattle.decision_walk.specs.Guessing.{HasGuesses}
use Rattle.decision_walk.proofs.Guesses.{placed_in_either}
use Rattle.decision_walk.proofs.StepLaws.{if_ok, placed_kept}
use Rattle.decision_walk.proofs.Origins.{adds_on, adds_as, adds_all_from}
use Rattle.decision_walk.proofs.machine.HistoryMachine.place_either.Goals as goal

pub returns : goal.returns
returns c =
    let known = c.args.self.now.history.now.known in
    let marks = c.args.self.now.marks.items in
    let state = c.args.state.now in
    let n = call_of c.args.place in
    let call = c.args.call.now in
    let outcome = c.args.outcome.now in
    let old = c.args.states.now.items in
    let middle = c.place_in_guesses_again.new.states.items in
    let new = c.place_as.new.states.items in
    let guesses = c.as_slice.result.now in
    let same : c.in_ok-guesses.guesses.items ≡ guesses = search rules in
    let of : AllOf state.origin guesses = subst (AllOf state.origin) same c.in_ok-guesses.ensures.origin in
    let barred = c.in_ok-barred.barred in
    if_ok c.place_as.result (λ _. Adds barred.origin middle new × HasPlaced known marks new barred n call outcome) (λ _. Adds state.origin old new × HasPlaced known marks new state n call outcome)
    (λ _ found. (
      adds_on state.origin old middle new (adds_all_from state.origin guesses old middle of c.in_ok-place_in_guesses_again.ensures.0) (adds_as barred.origin state.origin middle new (ap (λ (s : WalkView). s.origin) c.in_ok-barred.ensures.rest) found.0),
      placed_in_either known marks new guesses state barred n call outcome (subst (λ (list : List WalkView). HasGuesses known marks list state call) same c.in_ok-guesses.ensures.guesses)
          (all_weaker (λ (guess : WalkView). HasPlaced known marks middle guess n call outcome) (λ (guess : WalkView). HasPlaced known marks new guess n call outcome)
          (λ guess has. placed_kept known marks middle new guess n call outcome found.0.0 has) guesses c.in_ok-place_in_guesses_again.ensures.1) c.in_ok-barred.ensures found.1,
    )) c.place_as.ensures
