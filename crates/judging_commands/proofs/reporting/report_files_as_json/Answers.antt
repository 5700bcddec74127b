use Rattle.std.proofs.Common.{◌≢◌, rules}
use Rattle.nfs_history.specs.declared.fault.HistoryFault.TheVariants.{NoMemory}
use Rattle.judging_commands.proofs.Numbers.{fault_has_status, left, verdict_has_status}
use Rattle.judging_commands.proofs.reporting.report_files_as_json.Goals as goal

pub returns-in_ok-finding-in-Ok : goal.returns-in_ok-finding-in-Ok
returns-in_ok-finding-in-Ok c =
    let finding = c.in_ok-finding-in-Ok.finding in
    verdict_has_status c.args.history.now c.args.certificate.now finding.verdict
    (c.in_ok-finding-in-Ok.ensures.verdict c.args.history.now c.in-Ok.ensures.found) c.found_object.result c.found_object.ensures

pub returns-in-Err : goal.returns-in-Err
returns-in-Err c =
    let another : c.in-Err.fault ≢ NoMemory = search rules in
    fault_has_status c.args.history.now c.args.certificate.now c.in-Err.fault (left c.in-Err.ensures.fault another) c.verdict_object.result c.verdict_object.ensures
