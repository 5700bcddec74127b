use Rattle.std.proofs.Common.{List, false, rules, subst, ◌≡◌}
use Rattle.std.specs.List.{AllByRecursion}
use Rattle.decision_steps.specs.Known.{knows_handles}
use Rattle.decision_walk.specs.View.{WalkView, AllOf, Adds, AddsFrom}
use Rattle.decision_walk.specs.Placings.{HasTaken}
use Rattle.decision_walk.specs.Guessing.{HasGuesses}
use Rattle.decision_walk.proofs.Guesses.{taken_in_guesses}
use Rattle.decision_walk.proofs.StepLaws.{if_ok}
use Rattle.decision_walk.proofs.Origins.{adds_all_from}
use Rattle.decision_walk.proofs.machine.HistoryMachine.take_any_write.Goals as goal

pub returns : goal.returns
returns c =
    let known = c.args.self.now.history.now.known in
    let marks = c.args.self.now.marks.items in
    let state = c.args.state.now in
    let call = c.args.call.now in
    let old = c.args.states.now.items in
    let new = c.take_in_guesses.new.states.items in
    let guesses = c.as_slice.result.now in
    let same : c.in_ok-guesses.guesses.items ≡ guesses = search rules in
    let of : AllOf state.origin guesses = subst (AllOf state.origin) same c.in_ok-guesses.ensures.origin in
    let knows : knows_handles state.binds call ≡ false = search rules in
    if_ok c.take_in_guesses.result (λ _. AddsFrom guesses old new × AllByRecursion (λ guess. HasTaken known marks new guess c.args.n call) guesses) (λ _. Adds state.origin old new × HasTaken known marks new state c.args.n call)
    (λ _ found. (adds_all_from state.origin guesses old new of found.0, taken_in_guesses known marks new guesses state c.args.n call knows (subst (λ (list : List WalkView). HasGuesses known marks list state call) same c.in_ok-guesses.ensures.guesses) found.1)) c.take_in_guesses.ensures
