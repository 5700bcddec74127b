use Rattle.verdict_laws.proofs.Applies.{laws_apply}
use Rattle.verdict_laws.proofs.example.the_premises_are_met.Goals as goal

pub returns : goal.returns
returns c = laws_apply
