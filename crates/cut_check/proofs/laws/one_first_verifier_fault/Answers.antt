use Rattle.cut_check.proofs.ShownLaws.{none_from_agree, one_first}
use Rattle.cut_check.proofs.laws.one_first_verifier_fault.Goals as goal

pub returns-clause-one : goal.returns-clause-one
returns-clause-one c = one_first

pub returns-clause-excludes : goal.returns-clause-excludes
returns-clause-excludes c = λ calls eras e fault agree. none_from_agree calls eras agree e fault.at_fault
