use Rattle.std.proofs.Common.{◌≡◌, ℕ, Err}
use Rattle.std.proofs.lemmas.Result.{err_from_is_err_and}
use Rattle.order_check.specs.nfs_history_specs.HistoryValue.{CallsValue}
use Rattle.tree_handles.specs.Binding.{Bindings}
use Rattle.order_check.specs.Shape.{HasShape}
use Rattle.order_check.specs.Order.{EachEraRespectsOrder}
use Rattle.cut_check.specs.declared.fault.CutFault.TheVariants.{ShortCut}
use Rattle.cut_check.specs.declared.fault.VerifierFault.TheVariants.{Verifier}
use Rattle.cut_check.specs.Cut.{CutsKeepStable}
use Rattle.cut_check.specs.ShortCut.{IsShortCut}
use Rattle.cut_check.specs.Verifier.{VerifiersAgree}
use Rattle.cut_check.specs.VerifierFault.{IsVerifierFault}
use Rattle.witness_check.proofs.Tells.{tells_run, tells_cut, tells_verifiers, lent}
use Rattle.witness_check.proofs.verdict.check_parts.Goals as goal

pub returns-in_err-run_plan-clause-fault : goal.returns-in_err-run_plan-clause-fault
returns-in_err-run_plan-clause-fault c =
    let p = err_from_is_err_and c.from_residual-in_err-run_plan.result c.from_residual-in_err-run_plan.ensures.1 in
    let eras = c.args.certificate.now.eras in
    let along = lent c.args.history.now c.lend-calls.result c.in_ok-rule.rule.setting.binds c.args.certificate.now c.lend-calls.ensures c.in_ok-rule.ensures.binds in
    let shape = along (λ (b : Bindings) (k : CallsValue). HasShape k.eras k.calls eras) c.in_ok-check_shape_of_calls.ensures.ok in
    let order = along (λ (b : Bindings) (k : CallsValue). EachEraRespectsOrder k.calls eras) c.in_ok-check_order_of_calls.ensures.ok in
    rw (p.1, p.2) (tells_run c.args.history.now c.args.certificate.now c.in_err-run_plan.field-0.0 (shape, order) c.in_err-run_plan.ensures.stopped)

pub returns-in_err-check_cuts_of_calls-clause-fault : goal.returns-in_err-check_cuts_of_calls-clause-fault
returns-in_err-check_cuts_of_calls-clause-fault c =
    let p = err_from_is_err_and c.from_residual-in_err-check_cuts_of_calls.result c.from_residual-in_err-check_cuts_of_calls.ensures.1 in
    let eras = c.args.certificate.now.eras in
    let along = lent c.args.history.now c.lend-calls.result c.in_ok-rule.rule.setting.binds c.args.certificate.now c.lend-calls.ensures c.in_ok-rule.ensures.binds in
    let shape = along (λ (b : Bindings) (k : CallsValue). HasShape k.eras k.calls eras) c.in_ok-check_shape_of_calls.ensures.ok in
    let order = along (λ (b : Bindings) (k : CallsValue). EachEraRespectsOrder k.calls eras) c.in_ok-check_order_of_calls.ensures.ok in
    let short = along (λ (b : Bindings) (k : CallsValue). (e needed : ℕ) → c.check_cuts_of_calls.result ≡ Err (ShortCut e needed) → IsShortCut b k.calls eras e needed) c.check_cuts_of_calls.ensures.fault in
    rw (p.1, p.2) (tells_cut c.args.history.now c.args.certificate.now c.check_cuts_of_calls.result c.in_err-check_cuts_of_calls.field-0.0 c.in_err-check_cuts_of_calls.was
    ((shape, order), c.in_ok-run_plan.ensures.ok) short)

pub returns-in_err-check_verifiers_of_calls-clause-fault : goal.returns-in_err-check_verifiers_of_calls-clause-fault
returns-in_err-check_verifiers_of_calls-clause-fault c =
    let p = err_from_is_err_and c.from_residual-in_err-check_verifiers_of_calls.result c.from_residual-in_err-check_verifiers_of_calls.ensures.1 in
    let eras = c.args.certificate.now.eras in
    let along = lent c.args.history.now c.lend-calls.result c.in_ok-rule.rule.setting.binds c.args.certificate.now c.lend-calls.ensures c.in_ok-rule.ensures.binds in
    let shape = along (λ (b : Bindings) (k : CallsValue). HasShape k.eras k.calls eras) c.in_ok-check_shape_of_calls.ensures.ok in
    let order = along (λ (b : Bindings) (k : CallsValue). EachEraRespectsOrder k.calls eras) c.in_ok-check_order_of_calls.ensures.ok in
    let cut = along (λ (b : Bindings) (k : CallsValue). CutsKeepStable b k.calls eras) c.in_ok-check_cuts_of_calls.ensures.ok in
    let first = along (λ (b : Bindings) (k : CallsValue). (e : ℕ) → c.check_verifiers_of_calls.result ≡ Err (Verifier e) → IsVerifierFault k.calls eras e) c.check_verifiers_of_calls.ensures.fault in
    rw (p.1, p.2) (tells_verifiers c.args.history.now c.args.certificate.now c.check_verifiers_of_calls.result c.in_err-check_verifiers_of_calls.field-0.0 c.in_err-check_verifiers_of_calls.was
    (((shape, order), c.in_ok-run_plan.ensures.ok), cut) first)

pub returns-clause-ok : goal.returns-clause-ok
returns-clause-ok c =
    let eras = c.args.certificate.now.eras in
    let along = lent c.args.history.now c.lend-calls.result c.in_ok-rule.rule.setting.binds c.args.certificate.now c.lend-calls.ensures c.in_ok-rule.ensures.binds in
    record {
      shape = along (λ (b : Bindings) (k : CallsValue). HasShape k.eras k.calls eras) c.in_ok-check_shape_of_calls.ensures.ok;
      order = along (λ (b : Bindings) (k : CallsValue). EachEraRespectsOrder k.calls eras) c.in_ok-check_order_of_calls.ensures.ok;
      runs = c.in_ok-run_plan.ensures.ok;
      cuts = along (λ (b : Bindings) (k : CallsValue). CutsKeepStable b k.calls eras) c.in_ok-check_cuts_of_calls.ensures.ok;
      verifiers = along (λ (b : Bindings) (k : CallsValue). VerifiersAgree k.calls eras) c.in_ok-check_verifiers_of_calls.ensures.ok;
    }
