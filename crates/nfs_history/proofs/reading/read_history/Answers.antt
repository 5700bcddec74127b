use Rattle.std.proofs.Common.{Err, ap, ◌∙◌}
use Rattle.std.proofs.lemmas.Result.{err_from_is_err_and}
use Rattle.history_file.specs.Owning.{all_seen, recording_value}
use Rattle.nfs_history.specs.HistoryValue.{HistoryValue}
use Rattle.nfs_history.specs.History.{AreCallsOf}
use Rattle.nfs_history.specs.JoinedFaults.{of_file}
use Rattle.nfs_history.proofs.HistoryLaws.{root_small}
use Rattle.nfs_history.proofs.FirstFaultLaws.{only_memory_of, named_of, calls_in, history_found, calls_found, found_in, fault_in, file_stop}
use Rattle.nfs_history.proofs.reading.read_history.Goals as goal

pub returns-in_err-recording-clause-fault : goal.returns-in_err-recording-clause-fault
returns-in_err-recording-clause-fault c =
    let p = err_from_is_err_and c.from_residual.result c.from_residual.ensures.1 in
    rw (p.1, p.2) (file_stop c.args.bytes.now c.in_err-recording.field-0.0 c.in_err-recording.ensures.fault)

pub returns-in_err-recording-clause-only : goal.returns-in_err-recording-clause-only
returns-in_err-recording-clause-only c = λ history is.
    let p = err_from_is_err_and c.from_residual.result c.from_residual.ensures.1 in
    let stop = file_stop c.args.bytes.now c.in_err-recording.field-0.0 c.in_err-recording.ensures.fault in
    rw (p.1, p.2) (only_memory_of {X = HistoryValue} c.args.bytes.now (Err (of_file c.in_err-recording.field-0.0)) stop history.known (calls_in c.args.bytes.now history is))

pub returns-in_err-recording-clause-named : goal.returns-in_err-recording-clause-named
returns-in_err-recording-clause-named c = λ fault first.
    let p = err_from_is_err_and c.from_residual.result c.from_residual.ensures.1 in
    let stop = file_stop c.args.bytes.now c.in_err-recording.field-0.0 c.in_err-recording.ensures.fault in
    rw (p.1, p.2) (named_of (λ (h : HistoryValue). h.known) c.args.bytes.now (Err (of_file c.in_err-recording.field-0.0)) tt stop fault first)

pub from_slice-requires : goal.from_slice-requires
from_slice-requires c = root_small c.args.bytes.now (recording_value c.in_ok-recording.recording) c.in_ok-recording.ensures.found

pub returns-clause-found : goal.returns-clause-found
returns-clause-found c =
    let root = c.in_ok-root.ensures in
    let start = c.in_ok-start.ensures in
    let events = c.in_ok-events.ensures ∙ ap all_seen c.as_slice.ensures.value in
    history_found c.args.bytes.now (recording_value c.in_ok-recording.recording) c.build_from.result c.in_ok-recording.ensures.found (rw (root, start, events) at c.build_from.ensures.found) c.build_from.ensures.bare

pub returns-clause-fault : goal.returns-clause-fault
returns-clause-fault c =
    let events = c.in_ok-events.ensures ∙ ap all_seen c.as_slice.ensures.value in
    fault_in c.args.bytes.now (recording_value c.in_ok-recording.recording) c.build_from.result c.in_ok-recording.ensures.found (rw events at c.build_from.ensures.fault)

pub returns-clause-only : goal.returns-clause-only
returns-clause-only c = λ history is.
    let events = c.in_ok-events.ensures ∙ ap all_seen c.as_slice.ensures.value in
    let bytes = c.args.bytes.now in
    only_memory_of bytes c.build_from.result (fault_in bytes (recording_value c.in_ok-recording.recording) c.build_from.result c.in_ok-recording.ensures.found (rw events at c.build_from.ensures.fault)) history.known (calls_in bytes history is)

pub returns-clause-named : goal.returns-clause-named
returns-clause-named c = λ fault first.
    let root = c.in_ok-root.ensures in
    let start = c.in_ok-start.ensures in
    let events = c.in_ok-events.ensures ∙ ap all_seen c.as_slice.ensures.value in
    let bytes = c.args.bytes.now in
    let seen = recording_value c.in_ok-recording.recording in
    let file = c.in_ok-recording.ensures.found in
    let built = rw (root, start, events) at c.build_from.ensures.found in
    named_of (λ (h : HistoryValue). h.known) bytes c.build_from.result (found_in (λ s h. AreCallsOf s h.known) bytes seen c.build_from.result file (calls_found seen c.build_from.result built)) (fault_in bytes seen c.build_from.result file (rw events at c.build_from.ensures.fault)) fault first
