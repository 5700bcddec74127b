use Rattle.tree_laws.proofs.Later.{runs_read_back}
use Rattle.tree_laws.proofs.Written.{only_what_was_written, what_was_written}
use Rattle.tree_laws.proofs.reading.what_is_written_is_read.Goals as goal

pub returns : goal.returns
returns c = record { only = only_what_was_written; all = what_was_written; runs = runs_read_back }
