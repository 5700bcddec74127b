use Rattle.std.proofs.Common.{◌≡◌, List, ℕ, Some, sym, ◌∙◌, subst, rules}
use Rattle.tree_answers.specs.Asked.{second_handle}
use Rattle.decision_walk.specs.Guessing.{HasGuessesOf}
use Rattle.decision_walk.proofs.StepLaws.{if_ok}
use Rattle.decision_walk.specs.View.{Adds}
use Rattle.decision_walk.proofs.machine.HistoryMachine.put_second_guesses.Goals as goal

same : (a b : List ℕ) → Some a ≡ Some b → a ≡ b
same a b e = cc

pub returns-in-Some : goal.returns-in-Some
returns-in-Some c =
    let known = c.args.self.now.history.now.known in
    let state = c.args.state.now in
    let old = c.args.states.now.items in
    let new = c.put_guesses.new.states.items in
    let handle = c.in-Some.handle.now in
    let is : second_handle c.args.call.now ≡ Some handle = search rules in
    if_ok c.put_guesses.result (λ _. Adds state.origin old new × HasGuessesOf known new state handle)
    (λ _. Adds state.origin old new × ((other : List ℕ) → second_handle c.args.call.now ≡ Some other → HasGuessesOf known new state other))
    (λ _ found. (found.0, λ other named. subst (HasGuessesOf known new state) (same handle other (sym is ∙ named)) found.1)) c.put_guesses.ensures
