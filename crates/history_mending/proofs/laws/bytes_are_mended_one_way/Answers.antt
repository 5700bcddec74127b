use Rattle.history_mending.proofs.Whole.{one_mended}
use Rattle.history_mending.proofs.laws.bytes_are_mended_one_way.Goals as goal

pub returns : goal.returns
returns c = one_mended
