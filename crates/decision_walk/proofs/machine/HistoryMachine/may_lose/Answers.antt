use Rattle.std.proofs.Common.{◌≡◌, true, rules}
use Rattle.decision_walk.specs.Standing.{is_marked}
use Rattle.decision_walk.specs.Placings.{IsMissing}
use Rattle.decision_walk.proofs.Calls.{marked_stays, missing_stays}
use Rattle.decision_walk.proofs.machine.HistoryMachine.may_lose.Goals as goal

pub returns-then-is_marked : goal.returns-then-is_marked
returns-then-is_marked c = λ is.
    let marked : is_marked c.args.self.now.marks.items c.args.n ≡ true = search rules in
    marked_stays c.args.self.now.history.now.known c.args.self.now.marks.items c.args.state.now c.args.n marked

pub returns : goal.returns
returns c = λ is.
    let missing : IsMissing c.args.self.now.history.now.known c.args.self.now.marks.items c.args.state.now = search rules in
    missing_stays c.args.self.now.history.now.known c.args.self.now.marks.items c.args.state.now c.args.n missing
