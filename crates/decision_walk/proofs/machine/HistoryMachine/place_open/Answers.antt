use Rattle.std.proofs.Common.{◌≡◌, Some, rules}
use Rattle.decision_walk.specs.Opening.{open_at}
use Rattle.decision_walk.proofs.CountingLaws.{found_so}
use Rattle.decision_walk.proofs.machine.HistoryMachine.place_open.Goals as goal

pub open_over-requires-clause-found : goal.open_over-requires-clause-found
open_over-requires-clause-found c =
    let found : Some c.in-Some-open_at.earlier ≡ open_at c.args.state.now.writes c.in-Some.one.object = search rules in
    found_so c.args.state.now.writes c.in-Some.one.object (Some c.in-Some-open_at.earlier) found
