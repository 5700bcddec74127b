-- For the prover.
-- A report of calls with one more call: what the code's private functions say to the prover.
use Rattle.std.specs.Prelude.{◌+◌, ◌<◌, ◌^◌, not, if◌then◌else◌}
use Rattle.nfs_history.specs.declared.recorded.CallKind.{CallKind}
use Rattle.history_report.specs.declared.counting.HistoryNumbers.{HistoryNumbers}
use Rattle.history_report.specs.Kinds.{is_judged_kind, is_answered_kind, is_excused_kind}

abbrev pub report_with : HistoryNumbers → CallKind → HistoryNumbers
report_with report kind = record {
  calls = report.calls + 1;
  judged = report.judged + (if is_judged_kind kind then 1 else 0);
  answered = report.answered + (if is_answered_kind kind then 1 else 0);
  unjudged = report.unjudged + (if not (is_judged_kind kind) then 1 else 0);
  excused = report.excused + (if is_excused_kind kind then 1 else 0);
  eras = report.eras;
}

-- each count has room for one more
pub record CanGrow (report : HistoryNumbers) : Type 0 where
  pub calls : report.calls + 1 < 2 ^ 64
  pub judged : report.judged + 1 < 2 ^ 64
  pub answered : report.answered + 1 < 2 ^ 64
  pub unjudged : report.unjudged + 1 < 2 ^ 64
  pub excused : report.excused + 1 < 2 ^ 64
