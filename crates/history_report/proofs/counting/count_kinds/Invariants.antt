use Rattle.std.proofs.Common.{◌≡◌, take}
use Rattle.history_report.specs.Kinds.{report_by}
use Rattle.history_report.proofs.counting.count_kinds.Given as goal

abbrev pub invariant-loop-call : goal.invariant-loop-call
invariant-loop-call g l = l.report ≡ report_by g.K.HasKind.kind l.eras (take l.call-index l.calls)
