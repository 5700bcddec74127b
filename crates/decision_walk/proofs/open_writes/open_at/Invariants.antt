use Rattle.std.proofs.Common.{◌≡◌, drop}
use Rattle.decision_walk.specs.Opening.{open_at}
use Rattle.decision_walk.proofs.open_writes.open_at.Given as goal

-- no WRITE that was looked at is of the object
abbrev pub invariant-loop-one : goal.invariant-loop-one
invariant-loop-one l = open_at l.writes l.object ≡ open_at (drop l.one-index l.writes) l.object
