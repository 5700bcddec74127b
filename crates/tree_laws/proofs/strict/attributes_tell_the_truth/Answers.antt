use Rattle.tree_laws.proofs.Judged.{getattr_is_true, read_is_true, attributes_are_true, size_before_is_true}
use Rattle.tree_laws.proofs.strict.attributes_tell_the_truth.Goals as goal

pub returns-clause-get_attr : goal.returns-clause-get_attr
returns-clause-get_attr c = getattr_is_true

pub returns-clause-read : goal.returns-clause-read
returns-clause-read c = read_is_true

pub returns-clause-after : goal.returns-clause-after
returns-clause-after c = attributes_are_true

pub returns-clause-before : goal.returns-clause-before
returns-clause-before c = size_before_is_true
