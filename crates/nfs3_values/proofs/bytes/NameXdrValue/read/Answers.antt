use Rattle.std.proofs.Common.{arith}
use Rattle.nfs3_values.proofs.Bounds.{opaque_bound}
use Rattle.nfs3_values.proofs.bytes.NameXdrValue.read.Goals as goal

pub from_slice-requires : goal.from_slice-requires
from_slice-requires c = omega (arith, opaque_bound 4294967295 c.args.reader.now c.opaque.new.self c.in-Ok.bytes.now c.in-Ok.ensures)
