use Rattle.std.proofs.Common.{◌≡◌, Some, rules}
use Rattle.nfs_history.specs.Precedence.{call_at}
use Rattle.decide.proofs.ShownTwice.{shown_if}
use Rattle.decide.proofs.verifiers.shown_at.Goals as goal

pub returns-in-Some : goal.returns-in-Some
returns-in-Some c =
    let stands : call_at c.args.history.now.known.calls c.args.number ≡ Some c.in-Some.recorded.now = search rules in
    shown_if c.args.history.now.known c.in-Some.recorded.now c.args.number c.shown_by.result stands c.shown_by.ensures
