use Rattle.tree_laws.proofs.Unheeded.{handle_waits}
use Rattle.tree_laws.proofs.waiting.a_handle_waits_for_its_object.Goals as goal

pub returns : goal.returns
returns c = handle_waits
