use Rattle.std.proofs.Common.{◌-◌}
use Rattle.xdr_records.proofs.Copies.{ToCopy}
use Rattle.xdr_records.proofs.scan.content.Given as goal

abbrev pub invariant-loop-out : goal.invariant-loop-out
invariant-loop-out l = ToCopy l.at l.end l.out.items l.bytes

abbrev pub decreases-loop-out : goal.decreases-loop-out
decreases-loop-out l = l.end - l.at
