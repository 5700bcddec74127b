use Rattle.std.proofs.Common.{[], ◌∷◌, sym, subst, rules}
use Rattle.decision_walk.specs.Settling.{MaySettle, SettlesAt}
use Rattle.decision_walk.proofs.SettleLaws.{settles_one}
use Rattle.decision_walk.proofs.machine.HistoryMachine.settle_one.Goals as goal

pub returns-clause-settles : goal.returns-clause-settles
returns-clause-settles c =
    let known = c.args.self.now.history.now.known in
    let marks = c.args.self.now.marks.items in
    let may : MaySettle known c.args.state c.args.n c.in-Some.recorded.now = search rules in
    subst (SettlesAt known marks (c.args.n ∷ []) c.args.state) (sym c.in_ok-settled.ensures) (settles_one known marks (c.args.n ∷ []) c.args.state c.args.n c.in-Some.recorded.now may)
