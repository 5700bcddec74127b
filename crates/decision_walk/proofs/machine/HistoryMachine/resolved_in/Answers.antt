use Rattle.std.proofs.Common.{◌≡◌, Some, rules}
use Rattle.decision_walk.specs.Opening.{open_at}
use Rattle.decision_walk.proofs.CountingLaws.{resolves_in}
use Rattle.decision_walk.proofs.machine.HistoryMachine.resolved_in.Goals as goal

pub returns-clause-resolved : goal.returns-clause-resolved
returns-clause-resolved c = λ binds counts other counted has.
    let found : open_at c.args.writes.now c.args.one.object ≡ Some c.in-Some.other = search rules in
    let same : c.in-Some.other.call ≡ c.args.one.call = search rules in
    resolves_in c.args.self.now.history.now.known binds counts c.args.writes.now c.in_ok-without_writes.field-0.items c.args.stands.now c.in_ok-stands.stands other c.args.one c.in-Some.other c.args.count
    found same c.in_ok-stands.ensures.wrote c.in_ok-without_writes.ensures counted has
