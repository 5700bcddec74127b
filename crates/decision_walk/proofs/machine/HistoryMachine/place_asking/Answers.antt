use Rattle.std.proofs.Common.{List, rules, subst, ◌≡◌}
use Rattle.std.specs.List.{AllByRecursion}
use Rattle.certificate.specs.Plan.{call_of}
use Rattle.decision_walk.specs.View.{WalkView, AllOf, Adds, AddsFrom}
use Rattle.decision_walk.specs.Placings.{HasPlaced}
use Rattle.decision_walk.specs.Guessing.{HasGuesses}
use Rattle.decision_walk.proofs.Guesses.{placed_in_guesses}
use Rattle.decision_walk.proofs.StepLaws.{if_ok}
use Rattle.decision_walk.proofs.Origins.{adds_all_from}
use Rattle.decision_walk.proofs.machine.HistoryMachine.place_asking.Goals as goal

pub returns : goal.returns
returns c =
    let known = c.args.self.now.history.now.known in
    let marks = c.args.self.now.marks.items in
    let state = c.args.state.now in
    let n = call_of c.args.place in
    let call = c.args.call.now in
    let outcome = c.args.outcome.now in
    let old = c.args.states.now.items in
    let new = c.place_in_guesses_again.new.states.items in
    let guesses = c.as_slice.result.now in
    let same : c.in_ok-guesses.guesses.items ≡ guesses = search rules in
    let more = c.requires in
    let of : AllOf state.origin guesses = subst (AllOf state.origin) same c.in_ok-guesses.ensures.origin in
    if_ok c.place_in_guesses_again.result (λ _. AddsFrom guesses old new × AllByRecursion (λ guess. HasPlaced known marks new guess n call outcome) guesses) (λ _. Adds state.origin old new × HasPlaced known marks new state n call outcome)
    (λ _ found. (adds_all_from state.origin guesses old new of found.0, placed_in_guesses known marks new guesses state n call outcome more (subst (λ (list : List WalkView). HasGuesses known marks list state call) same c.in_ok-guesses.ensures.guesses) found.1)) c.place_in_guesses_again.ensures
