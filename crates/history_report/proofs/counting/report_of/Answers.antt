use Rattle.history_report.proofs.KindLaws.{owned_report}
use Rattle.history_report.proofs.counting.report_of.Goals as goal

pub returns : goal.returns
returns c = owned_report _ _ _ _ _ c.count_kinds.ensures c.eras.ensures c.recorded_calls.ensures
