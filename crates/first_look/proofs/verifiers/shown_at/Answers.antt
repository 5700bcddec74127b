use Rattle.std.proofs.Common.{◌≡◌, Some, rules}
use Rattle.nfs_history.specs.Precedence.{call_at}
use Rattle.first_look.proofs.Two.{shown_if}
use Rattle.first_look.proofs.verifiers.shown_at.Goals as goal

pub returns-in-Some : goal.returns-in-Some
returns-in-Some c =
    let stands : call_at c.args.known.now.calls c.args.number ≡ Some c.in-Some.recorded = search rules in
    shown_if c.args.known.now c.in-Some.recorded c.args.number c.shown_by.result stands c.shown_by.ensures
