use Rattle.tree_laws.proofs.Renamed.{rename_moves}
use Rattle.tree_laws.proofs.renames.a_rename_moves_what_it_names.Goals as goal

pub returns : goal.returns
returns c = rename_moves
