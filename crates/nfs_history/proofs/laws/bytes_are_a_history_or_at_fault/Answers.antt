use Rattle.nfs_history.proofs.FirstFaultLaws.{file_fault_or_history}
use Rattle.nfs_history.proofs.EitherWay.{history_or_fault}
use Rattle.nfs_history.proofs.laws.bytes_are_a_history_or_at_fault.Goals as goal

pub returns-clause-some : goal.returns-clause-some
returns-clause-some c = history_or_fault

pub returns-clause-never_both : goal.returns-clause-never_both
returns-clause-never_both c = λ bytes h fault is first. file_fault_or_history bytes fault h first is
