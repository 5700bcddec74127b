use Rattle.std.proofs.lemmas.Result.{err_from_is_err_and}
use Rattle.history_file.specs.FileFaults.{IsFileFault}
use Rattle.history_file.specs.FileReading.{version_of}
use Rattle.history_lines.proofs.LeftLaws.{error_of}
use Rattle.history_lines.proofs.lines.EventLines.new.Goals as goal

pub returns-in_err-start-clause-fault : goal.returns-in_err-start-clause-fault
returns-in_err-start-clause-fault c =
    let p = err_from_is_err_and c.from_residual.result c.from_residual.ensures.1 in
    rw (p.1, p.2) (error_of (IsFileFault c.args.bytes.now) (version_of c.args.bytes.now) c.in_err-start.field-0.0 c.in_err-start.ensures.fault)
