use Rattle.tree_laws.proofs.Below.{nothing_below, no_directory_is_bare, remove_asks_only, rename_asks_only}
use Rattle.tree_laws.proofs.runs.only_directories_have_entries.Goals as goal

pub returns : goal.returns
returns c = record { below = nothing_below; bare = no_directory_is_bare; remove = remove_asks_only; rename = rename_asks_only }
