use Rattle.std.proofs.Common.{[], rules, subst}
use Rattle.certificate.specs.Plan.{call_of}
use Rattle.decision_walk.specs.Placings.{CoversPoints}
use Rattle.decision_walk.proofs.CountingLaws.{none_is, fits_not}
use Rattle.decision_walk.proofs.machine.HistoryMachine.fits.Goals as goal

pub returns : goal.returns
returns c = λ no.
    let known = c.args.self.now.history.now.known in
    let marks = c.args.self.now.marks.items in
    let n = call_of c.args.place in
    let call = c.args.call.now in
    let outcome = c.args.outcome.now in
    let after = c.in_ok-resolved.resolved in
    let none = subst (CoversPoints known marks after n call outcome) (none_is c.in_ok-found.found (search rules)) c.in_ok-found.ensures.covers in
    fits_not known marks [] c.args.state.now n call c.args.written.0.call c.args.written.1 after c.in_ok-resolved.ensures.resolved outcome none
