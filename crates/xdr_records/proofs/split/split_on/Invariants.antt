use Rattle.std.proofs.Common.{◌-◌, length}
use Rattle.xdr_records.specs.Splits.{Follows}
use Rattle.xdr_records.proofs.split.split_on.Given as goal

abbrev pub invariant-loop-passed : goal.invariant-loop-passed
invariant-loop-passed l = Follows l.fn.first l.bytes l.used l.records.items

abbrev pub decreases-loop-passed : goal.decreases-loop-passed
decreases-loop-passed l = length l.bytes - l.used
