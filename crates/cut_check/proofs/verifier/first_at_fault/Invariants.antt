use Rattle.cut_check.specs.Shown.{HasLater, IsFirstBehind}
use Rattle.cut_check.proofs.verifier.first_at_fault.Given as goal

abbrev pub invariant-loop-index : goal.invariant-loop-index
invariant-loop-index l = HasLater l.history.calls l.eras l.index l.later × IsFirstBehind l.history.calls l.eras l.index l.found
