use Rattle.std.proofs.Common.{take}
use Rattle.decision_core.specs.Events.{IsWithout}
use Rattle.decision_core.proofs.deciding.others.Given as goal

abbrev pub invariant-loop-call : goal.invariant-loop-call
invariant-loop-call g l = IsWithout l.n (take l.call-index l.waiting) l.left.items
