use Rattle.nfs3_values.proofs.Bounds.{opaque_bound}
use Rattle.nfs3_values.proofs.bytes.FileHandleXdrValue.read.Goals as goal

pub from_slice-requires : goal.from_slice-requires
from_slice-requires c = opaque_bound 64 c.args.reader.now c.opaque.new.self c.in-Ok.bytes.now c.in-Ok.ensures
