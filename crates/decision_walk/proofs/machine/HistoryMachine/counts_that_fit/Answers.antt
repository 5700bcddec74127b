use Rattle.std.proofs.Common.{◌⊎◌, ℕ, arith}
use Rattle.certificate.specs.Plan.{call_of}
use Rattle.decision_walk.specs.Opening.{IsWithin}
use Rattle.decision_walk.specs.Placings.{DoesNotFit}
use Rattle.decision_walk.proofs.CountingLaws.{next_fit, all_fit}
use Rattle.decision_walk.proofs.machine.HistoryMachine.counts_that_fit.Goals as goal

pub loop-more-preserved : goal.loop-more-preserved
loop-more-preserved c =
    let known = c.args.self.now.history.now.known in
    let marks = c.args.self.now.marks.items in
    let Not : ℕ → Type 0 = DoesNotFit known marks c.args.state.now c.args.one.call (call_of c.args.place) c.args.call.now c.args.outcome.now in
    next_fit Not c.loop-more.counts c.with_fitting-counts.result c.args.one.least c.loop-more.more c.in_ok-fits.fits c.with_fitting-counts.ensures.kept c.loop-more.invariant c.in_ok-fits.ensures c.with_fitting-counts.ensures.fits

pub returns : goal.returns
returns c =
    let known = c.args.self.now.history.now.known in
    let marks = c.args.self.now.marks.items in
    all_fit (λ count. DoesNotFit known marks c.args.state.now c.args.one.call (call_of c.args.place) c.args.call.now c.args.outcome.now count ⊎ IsWithin c.loop-more.counts count) c.args.one.least c.args.one.most _ c.loop-more.more
    c.in_ok-more-end.ensures (omega (arith, c.loop-more-test.false)) c.loop-more.invariant
