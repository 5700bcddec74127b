use Rattle.nfs_history.proofs.OneHistory.{one_history}
use Rattle.nfs_history.proofs.laws.a_file_has_one_history.Goals as goal

pub returns : goal.returns
returns c = one_history
