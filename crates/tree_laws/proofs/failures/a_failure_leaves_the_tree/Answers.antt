use Rattle.tree_laws.proofs.Kept.{failure_leaves, looking_leaves}
use Rattle.tree_laws.proofs.failures.a_failure_leaves_the_tree.Goals as goal

pub returns : goal.returns
returns c = record { failed = failure_leaves; looked = looking_leaves }
