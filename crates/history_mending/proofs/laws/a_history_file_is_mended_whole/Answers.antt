use Rattle.history_mending.proofs.Whole.{file_mended}
use Rattle.history_mending.proofs.laws.a_history_file_is_mended_whole.Goals as goal

pub returns : goal.returns
returns c = file_mended
