use Rattle.std.proofs.Common.{◌∙◌, subst, sym}
use Rattle.nfs_history.specs.HistoryValue.{CallsValue}
use Rattle.recorder.specs.book_laws_specs.ServedPlan.{EachServed}
use Rattle.journal_server.proofs.Telling.{told_same, least_same, fault_same}
use Rattle.journal_server.proofs.closing.close_book.Goals as goal

pub returns-in-Err-clause-only : goal.returns-in-Err-clause-only
returns-in-Err-clause-only g c = λ told. c.in-Err.ensures.only (told_same c.args.book.history c.history.result.now c.history.ensures.0 c.history.ensures.1 c.args.passes.now told)

pub returns-in-Err-clause-fault : goal.returns-in-Err-clause-fault
returns-in-Err-clause-fault g c =
    fault_same c.history.result.now c.args.book.history (sym c.history.ensures.0) (sym c.history.ensures.1) c.args.passes.now c.in-Err.fault c.in-Err.ensures.fault

pub returns-in-Err-clause-torn : goal.returns-in-Err-clause-torn
returns-in-Err-clause-torn g c =
    λ lane least. c.in-Err.ensures.torn lane (least_same c.args.book.history c.history.result.now c.history.ensures.0 c.history.ensures.1 c.args.passes.now lane least)

pub returns-clause-serves : goal.returns-clause-serves
returns-clause-serves g c = subst (λ (k : CallsValue). EachServed k c.in_ok-certificate.certificate) (sym c.into_history.ensures.0) c.in_ok-certificate.ensures.serves

pub returns-clause-told : goal.returns-clause-told
returns-clause-told g c =
    told_same c.history.result.now c.into_history.result (c.into_history.ensures.0 ∙ sym c.history.ensures.0) (c.into_history.ensures.1 ∙ sym c.history.ensures.1) c.args.passes.now c.in-Ok.ensures.ok

pub returns-clause-torn : goal.returns-clause-torn
returns-clause-torn g c =
    λ lane least. c.in-Ok.ensures.torn lane (least_same c.args.book.history c.history.result.now c.history.ensures.0 c.history.ensures.1 c.args.passes.now lane least)
