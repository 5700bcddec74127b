use Rattle.night_command.proofs.Nights.{told_so}
use Rattle.night_command.specs.Nights.{profile_asked}
use Rattle.night_command.proofs.test.run_test.Goals as goal

pub returns-clause-judged : goal.returns-clause-judged
returns-clause-judged g c =
    told_so c.night_report.result c.tell_answer.result (g.O.Output.contents c.args.output.now) (g.O.Output.contents c.tell_answer.new.output)
    (profile_asked c.args.request.now.is_strict) c.night_report.ensures.said c.tell_answer.ensures.memory c.tell_answer.ensures.report
