use Rattle.tree_laws.proofs.Removing.{remove_takes_one, rmdir_takes_one}
use Rattle.tree_laws.proofs.removals.removals_take_one_node_away.Goals as goal

pub returns : goal.returns
returns c = record { remove = remove_takes_one; rmdir = rmdir_takes_one }
