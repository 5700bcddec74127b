use Rattle.std.proofs.Common.{sym, subst}
use Rattle.decision_walk.specs.View.{WalkView}
use Rattle.decision_walk.specs.Standing.{IsAt}
use Rattle.decision_walk.proofs.MachineLaws.{renewed_stands}
use Rattle.decision_walk.proofs.machine.HistoryMachineMachine.renew.Goals as goal

pub returns-clause-replaces : goal.returns-clause-replaces
returns-clause-replaces c = λ plan gone point at.
    let known = c.args.self.now.history.now.known in
    let marks = c.args.self.now.marks.items in
    subst (λ (s : WalkView). IsAt known marks plan gone point s) (sym c.in_ok-renewed.ensures) (renewed_stands known marks c.args.state _ plan gone point at)
