use Rattle.std.proofs.Common.{rules, subst}
use Rattle.tree_answers.specs.Asked.{first_handle}
use Rattle.decision_walk.specs.Guessing.{HasGuessesOf}
use Rattle.decision_walk.proofs.Guesses.{first_guessed, guesses_grow}
use Rattle.decision_walk.proofs.Origins.{none_of}
use Rattle.decision_walk.proofs.machine.HistoryMachine.all_guesses.Goals as goal

pub returns-clause-guesses : goal.returns-clause-guesses
returns-clause-guesses c =
    let known = c.args.self.now.history.now.known in
    let state = c.args.state.now in
    let middle = c.put_guesses.new.states.items in
    let new = c.put_second_guesses.new.states.items in
    let first : HasGuessesOf known middle state (first_handle c.args.call.now) = subst (HasGuessesOf known middle state) c.first_handle.ensures c.in_ok-put_guesses.ensures.1 in
    first_guessed known c.args.self.now.marks.items new state c.args.call.now (guesses_grow known middle new state (first_handle c.args.call.now) c.in_ok-put_second_guesses.ensures.0.0 first)
    c.in_ok-put_second_guesses.ensures.1

pub returns-clause-origin : goal.returns-clause-origin
returns-clause-origin c = c.in_ok-put_second_guesses.ensures.0.1 (c.in_ok-put_guesses.ensures.0.1 (none_of c.args.state.now.origin _ (search rules)))
