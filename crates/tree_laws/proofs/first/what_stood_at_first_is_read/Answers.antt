use Rattle.tree_laws.proofs.Later.{first_bytes_are_read}
use Rattle.tree_laws.proofs.first.what_stood_at_first_is_read.Goals as goal

pub returns : goal.returns
returns c = first_bytes_are_read
