use Rattle.decision_core.specs.Eras.{order_of}
use Rattle.decision_law.specs.Times.{numbering_of}
use Rattle.decision_law.specs.Plans.{eras_of_plan}
use Rattle.decision_law.specs.Laws.{binds_of}
use Rattle.decision_law.proofs.Orders.{is_order}
use Rattle.decision_law.proofs.laws.no_order_no_witness.Goals as goal

pub returns : goal.returns
returns c = λ known start hints timed told none plan witness.
    none (binds_of known plan) (order_of (numbering_of known hints) 1 (eras_of_plan plan.eras)) (is_order known hints start plan timed told witness)
