use Rattle.tree_laws.proofs.Taking.{taken_as_received}
use Rattle.tree_laws.proofs.taken.a_success_may_be_taken.Goals as goal

pub returns : goal.returns
returns c = taken_as_received
