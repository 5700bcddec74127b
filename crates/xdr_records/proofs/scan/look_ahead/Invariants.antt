use Rattle.std.proofs.Common.{◌≡◌, ◌-◌, length}
use Rattle.xdr_records.specs.Scan.{Passed}
use Rattle.xdr_records.proofs.scan.look_ahead.Given as goal

abbrev pub invariant-loop-at : goal.invariant-loop-at
invariant-loop-at l = Passed l.at l.sum l.bytes × (l.all ≡ length l.bytes)

abbrev pub decreases-loop-at : goal.decreases-loop-at
decreases-loop-at l = l.all - l.at
