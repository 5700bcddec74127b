use Rattle.tree_laws.proofs.Sparing.{what_stood_stays}
use Rattle.tree_laws.proofs.first.what_stood_at_first_stays.Goals as goal

pub returns : goal.returns
returns c = what_stood_stays
