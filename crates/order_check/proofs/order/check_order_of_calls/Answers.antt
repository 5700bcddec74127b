-- The first era that breaks the order, and none where each respects it.
use Rattle.std.proofs.Common.{refl, ap, Err}
use Rattle.std.proofs.lemmas.Result.{err_from_is_err_and}
use Rattle.order_check.proofs.OrderLaws.{no_early_fault, fault_at, all_eras}
use Rattle.order_check.proofs.OneEarly.{one_early}
use Rattle.order_check.proofs.order.check_order_of_calls.Goals as goal

pub returns-in_err-check_era-clause-early : goal.returns-in_err-check_era-clause-early
returns-in_err-check_era-clause-early c =
    let fault = c.in_err-check_era.field-0.0 in
    let p = err_from_is_err_and c.from_residual.result c.from_residual.ensures.1 in
    let early = fault_at c.args.calls.now.calls c.args.certificate.now.eras c.args.calls.now.calls c.as_slice-eras.result.now c.as_slice.result.now c.loop-era.era-index c.era-item.result fault
    refl c.as_slice-eras.ensures c.as_slice.ensures c.loop-era-test.true c.era-item.is c.loop-era.invariant c.in_err-check_era.ensures.early in
    rw (p.1, p.2) early

pub returns-in_err-check_era-clause-only : goal.returns-in_err-check_era-clause-only
returns-in_err-check_era-clause-only c = λ each.
    let fault = c.in_err-check_era.field-0.0 in
    let early = fault_at c.args.calls.now.calls c.args.certificate.now.eras c.args.calls.now.calls c.as_slice-eras.result.now c.as_slice.result.now c.loop-era.era-index c.era-item.result fault
    refl c.as_slice-eras.ensures c.as_slice.ensures c.loop-era-test.true c.era-item.is c.loop-era.invariant c.in_err-check_era.ensures.early in
    absurd (no_early_fault c.args.calls.now.calls c.args.certificate.now.eras fault early each)

pub returns-in_err-check_era-clause-named : goal.returns-in_err-check_era-clause-named
returns-in_err-check_era-clause-named c = λ named is.
    let calls = c.args.calls.now.calls in
    let plan = c.args.certificate.now.eras in
    let fault = c.in_err-check_era.field-0.0 in
    let p = err_from_is_err_and c.from_residual.result c.from_residual.ensures.1 in
    let early = fault_at calls plan c.args.calls.now.calls c.as_slice-eras.result.now c.as_slice.result.now c.loop-era.era-index c.era-item.result fault
    refl c.as_slice-eras.ensures c.as_slice.ensures c.loop-era-test.true c.era-item.is c.loop-era.invariant c.in_err-check_era.ensures.early in
    rw (p.1, p.2) (ap (λ f. Err f) (one_early calls plan fault named early is))

pub returns-clause-named : goal.returns-clause-named
returns-clause-named c = λ named is.
    let calls = c.args.calls.now.calls in
    let plan = c.args.certificate.now.eras in
    let each = all_eras calls plan c.args.calls.now.calls c.as_slice-eras.result.now c.loop-era.era-index refl c.as_slice-eras.ensures c.loop-era-test.false c.loop-era.invariant in
    absurd (no_early_fault calls plan named is each)
