use Rattle.tree_laws.proofs.Staying.{others_stay}
use Rattle.tree_laws.proofs.one_path.a_call_changes_one_path.Goals as goal

pub returns : goal.returns
returns c = others_stay
