use Rattle.tree_laws.proofs.Lasting.{objects_last}
use Rattle.tree_laws.proofs.runs.an_object_keeps_its_type.Goals as goal

pub returns : goal.returns
returns c = objects_last
