use Rattle.std.proofs.Common.{length, arith}
use Rattle.std.proofs.lemmas.Slice.{between_to_end}
use Rattle.history_mending.proofs.mending.behind_magic.Goals as goal

pub returns : goal.returns
returns c = between_to_end c.args.bytes.now 8 (length c.args.bytes.now) (omega arith)
