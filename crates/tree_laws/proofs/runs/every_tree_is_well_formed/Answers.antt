use Rattle.tree_laws.proofs.Running.{steps_keep, runs_keep}
use Rattle.tree_laws.proofs.runs.every_tree_is_well_formed.Goals as goal

pub returns : goal.returns
returns c = record { steps = steps_keep; runs = runs_keep }
