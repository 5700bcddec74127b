use Rattle.tree_laws.proofs.Set.{write_sets, set_attr_sets}
use Rattle.tree_laws.proofs.Unwritten.{other_bytes_stay}
use Rattle.tree_laws.proofs.bytes.each_byte_is_set_or_stays.Goals as goal

pub returns : goal.returns
returns c = record { write = write_sets; set_attr = set_attr_sets; other = other_bytes_stay }
