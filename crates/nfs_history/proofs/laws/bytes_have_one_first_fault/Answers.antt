use Rattle.nfs_history.proofs.FirstFaultLaws.{one_first}
use Rattle.nfs_history.proofs.laws.bytes_have_one_first_fault.Goals as goal

pub returns : goal.returns
returns c = one_first
