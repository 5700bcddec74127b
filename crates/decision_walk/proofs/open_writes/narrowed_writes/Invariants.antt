use Rattle.std.proofs.Common.{◌≡◌, take}
use Rattle.std.specs.Prelude.{map}
use Rattle.decision_walk.specs.Opening.{narrowed_write}
use Rattle.decision_walk.proofs.open_writes.narrowed_writes.Given as goal

abbrev pub invariant-loop-one : goal.invariant-loop-one
invariant-loop-one l = l.rest.items ≡ map (narrowed_write l.call l.least l.most) (take l.one-index l.writes)
