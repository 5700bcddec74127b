use Rattle.std.proofs.Common.{inl, ap}
use Rattle.history_report.specs.declared.counting.HistoryNumbers.{HistoryNumbers}
use Rattle.night_verdict.proofs.Causes.{none_there}
use Rattle.night_verdict.proofs.judging.answered_in.Goals as goal

pub returns-in_ok-idleness_of-in-Ok : goal.returns-in_ok-idleness_of-in-Ok
returns-in_ok-idleness_of-in-Ok c = (
  inl (c.in-Ok.known, c.in-Ok.ensures.found, ap (λ (numbers : HistoryNumbers). numbers.answered) c.report_of_calls-numbers.ensures),
  inl (c.in-Ok.known, c.in-Ok.ensures.found, ap (λ (numbers : HistoryNumbers). numbers.excused) c.report_of_calls-numbers.ensures),
  inl (c.in-Ok.known, c.in-Ok.ensures.found, c.in_ok-idleness_of-in-Ok.ensures.all, c.in_ok-idleness_of-in-Ok.ensures.procedure),
)

pub returns-in-Err : goal.returns-in-Err
returns-in-Err c = none_there c.args.history.now c.in-Err.fault c.none_answered.result c.in-Err.ensures.fault c.none_answered.ensures.none c.none_answered.ensures.fault
