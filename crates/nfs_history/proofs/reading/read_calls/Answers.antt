use Rattle.std.proofs.Common.{Err}
use Rattle.std.proofs.lemmas.Result.{err_from_is_err_and}
use Rattle.history_file.specs.Owning.{recording_value}
use Rattle.nfs_history.specs.HistoryValue.{CallsValue}
use Rattle.nfs_history.specs.History.{AreCallsOf}
use Rattle.nfs_history.specs.JoinedFaults.{of_file}
use Rattle.nfs_history.proofs.HistoryLaws.{root_small}
use Rattle.nfs_history.proofs.FirstFaultLaws.{only_memory_of, named_of, found_in, fault_in, file_stop}
use Rattle.nfs_history.proofs.reading.read_calls.Goals as goal

pub returns-in_err-seen-clause-fault : goal.returns-in_err-seen-clause-fault
returns-in_err-seen-clause-fault c =
    let p = err_from_is_err_and c.from_residual.result c.from_residual.ensures.1 in
    rw (p.1, p.2) (file_stop c.args.bytes.now c.in_err-seen.field-0.0 c.in_err-seen.ensures.fault)

pub returns-in_err-seen-clause-only : goal.returns-in_err-seen-clause-only
returns-in_err-seen-clause-only c = λ known is.
    let p = err_from_is_err_and c.from_residual.result c.from_residual.ensures.1 in
    let stop = file_stop c.args.bytes.now c.in_err-seen.field-0.0 c.in_err-seen.ensures.fault in
    rw (p.1, p.2) (only_memory_of {X = CallsValue} c.args.bytes.now (Err (of_file c.in_err-seen.field-0.0)) stop known is)

pub returns-in_err-seen-clause-named : goal.returns-in_err-seen-clause-named
returns-in_err-seen-clause-named c = λ fault first.
    let p = err_from_is_err_and c.from_residual.result c.from_residual.ensures.1 in
    let stop = file_stop c.args.bytes.now c.in_err-seen.field-0.0 c.in_err-seen.ensures.fault in
    rw (p.1, p.2) (named_of (λ (k : CallsValue). k) c.args.bytes.now (Err (of_file c.in_err-seen.field-0.0)) tt stop fault first)

pub from_slice-requires : goal.from_slice-requires
from_slice-requires c = root_small c.args.bytes.now (recording_value c.in_ok-seen.seen) c.in_ok-seen.ensures.found

pub returns-clause-found : goal.returns-clause-found
returns-clause-found c =
    let root = c.in_ok-root.ensures in
    found_in AreCallsOf c.args.bytes.now (recording_value c.in_ok-seen.seen) c.of_events.result c.in_ok-seen.ensures.found (rw (c.new.ensures, root) at c.of_events.ensures.found)

pub returns-clause-fault : goal.returns-clause-fault
returns-clause-fault c =
    fault_in c.args.bytes.now (recording_value c.in_ok-seen.seen) c.of_events.result c.in_ok-seen.ensures.found c.of_events.ensures.fault

pub returns-clause-only : goal.returns-clause-only
returns-clause-only c = λ known is.
    only_memory_of c.args.bytes.now c.of_events.result (fault_in c.args.bytes.now (recording_value c.in_ok-seen.seen) c.of_events.result c.in_ok-seen.ensures.found c.of_events.ensures.fault) known is

pub returns-clause-named : goal.returns-clause-named
returns-clause-named c = λ fault first.
    let root = c.in_ok-root.ensures in
    let bytes = c.args.bytes.now in
    let seen = recording_value c.in_ok-seen.seen in
    named_of (λ (k : CallsValue). k) bytes c.of_events.result (found_in AreCallsOf bytes seen c.of_events.result c.in_ok-seen.ensures.found (rw (c.new.ensures, root) at c.of_events.ensures.found)) (fault_in bytes seen c.of_events.result c.in_ok-seen.ensures.found c.of_events.ensures.fault) fault first
