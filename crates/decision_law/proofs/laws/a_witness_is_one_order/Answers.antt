use Rattle.decision_law.proofs.Orders.{era_witness, is_order}
use Rattle.decision_law.proofs.laws.a_witness_is_one_order.Goals as goal

pub returns-clause-eras : goal.returns-clause-eras
returns-clause-eras c = λ known start hints plan timed told witness. era_witness known hints start plan timed told witness

pub returns-clause-order : goal.returns-clause-order
returns-clause-order c = λ known start hints plan timed told witness. is_order known hints start plan timed told witness
