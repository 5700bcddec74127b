use Rattle.verdict_laws.proofs.Told.{getattr_told_truth, read_told_truth}
use Rattle.verdict_laws.proofs.strict.strict_attributes_are_true.Goals as goal

pub returns-clause-get_attr : goal.returns-clause-get_attr
returns-clause-get_attr c = getattr_told_truth

pub returns-clause-read : goal.returns-clause-read
returns-clause-read c = read_told_truth
