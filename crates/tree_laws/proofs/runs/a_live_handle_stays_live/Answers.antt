use Rattle.tree_laws.proofs.Living.{handles_last}
use Rattle.tree_laws.proofs.runs.a_live_handle_stays_live.Goals as goal

pub returns : goal.returns
returns c = handles_last
