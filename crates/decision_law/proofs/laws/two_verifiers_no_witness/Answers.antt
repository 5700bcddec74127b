use Rattle.decision_law.proofs.Orders.{no_two_verifiers}
use Rattle.decision_law.proofs.laws.two_verifiers_no_witness.Goals as goal

pub returns : goal.returns
returns c = λ known start timed two plan witness. no_two_verifiers known start timed plan two witness
