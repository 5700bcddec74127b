use Rattle.std.proofs.Common.{◌≤◌, sym, subst, rules}
use Rattle.decision_core.specs.States.{also}
use Rattle.decision_walk.specs.Standing.{IsAt}
use Rattle.decision_walk.proofs.MachineLaws.{forgets}
use Rattle.decision_walk.proofs.machine.HistoryMachineMachine.forget.Goals as goal

pub returns-clause-forgets : goal.returns-clause-forgets
returns-clause-forgets c =
    let known = c.args.self.now.history.now.known in
    let marks = c.args.self.now.marks.items in
    let later : c.args.state.answered_to ≤ c.answered_with-answered_to.result = search rules in
    λ plan gone point at. subst (IsAt known marks plan (also gone c.args.n) point) (sym c.without_call.ensures)
    (forgets known marks plan gone point c.args.state c.args.n c.answered_with-answered_to.result later c.answered_with-answered_to.ensures.ends at)
