use Rattle.witness_check.proofs.OneVerdict.{one_verdict}
use Rattle.witness_check.proofs.laws.a_plan_has_one_verdict.Goals as goal

pub returns : goal.returns
returns c = one_verdict
