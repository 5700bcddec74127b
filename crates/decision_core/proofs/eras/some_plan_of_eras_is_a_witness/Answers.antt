use Rattle.decision_core.proofs.ErasExample.{numbered, has_witness}
use Rattle.decision_core.proofs.eras.some_plan_of_eras_is_a_witness.Goals as goal

pub returns : goal.returns
returns c = (numbered, has_witness)
