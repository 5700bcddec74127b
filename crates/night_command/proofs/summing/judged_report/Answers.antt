use Rattle.std.proofs.Common.{◌≡◌, Bool}
use Rattle.std.proofs.lemmas.Result.{IfOk-weaker}
use Rattle.program_streams.specs.Told.{Answer}
use Rattle.night_command.specs.Status.{told_status}
use Rattle.night_command.specs.Nights.{IsStatusOf}
use Rattle.night_command.proofs.summing.judged_report.Goals as goal

pub returns-clause-said : goal.returns-clause-said
returns-clause-said g c =
    IfOk-weaker c.written_report.result
    (λ (report : Answer). (is_written : Bool) × (report.status ≡ told_status is_written c.in_ok-told.told.judged.verdict))
    (λ (report : Answer). IsStatusOf c.args.ran.now.eras.end c.args.history.now report.status)
    (λ report said. record {
      troubles = c.deref.result.now;
      verdict = c.in_ok-told.told.judged.verdict;
      judged = c.in_ok-told.ensures.judged;
      is_written = said.0;
      said = said.1;
    })
    c.written_report.ensures.said
