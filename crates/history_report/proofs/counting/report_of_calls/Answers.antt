use Rattle.history_report.proofs.KindLaws.{known_report}
use Rattle.history_report.proofs.counting.report_of_calls.Goals as goal

pub returns : goal.returns
returns c = known_report _ _ _ _ _ c.count_kinds.ensures c.eras.ensures c.kinds.ensures
