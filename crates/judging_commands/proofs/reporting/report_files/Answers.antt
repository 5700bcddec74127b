use Rattle.std.proofs.Common.{◌≢◌, rules}
use Rattle.nfs_history.specs.declared.fault.HistoryFault.TheVariants.{NoMemory}
use Rattle.judging_commands.proofs.Numbers.{fault_reported, history_reported, left}
use Rattle.judging_commands.proofs.reporting.report_files.Goals as goal

pub returns-in_ok-finding-in-Ok : goal.returns-in_ok-finding-in-Ok
returns-in_ok-finding-in-Ok c =
    let finding = c.in_ok-finding-in-Ok.finding in
    history_reported c.args.history.now c.args.certificate.now c.in-Ok.history c.report_of_calls-counts.result finding.verdict finding.lost c.in-Ok.ensures.found
    (c.in_ok-finding-in-Ok.ensures.verdict c.args.history.now c.in-Ok.ensures.found) c.in_ok-finding-in-Ok.ensures.lost c.report_of_calls-counts.ensures
    c.report_found.result c.report_found.ensures.status c.report_found.ensures.line

pub returns-in-Err : goal.returns-in-Err
returns-in-Err c =
    let another : c.in-Err.fault ≢ NoMemory = search rules in
    fault_reported c.args.history.now c.args.certificate.now c.in-Err.fault (left c.in-Err.ensures.fault another)
    c.verdict_report.result c.verdict_report.ensures.status c.verdict_report.ensures.line
