use Rattle.decision_steps.proofs.Placed.{plans_are_covered, states_are_of_plans, handles_stay_bound}
use Rattle.decision_steps.proofs.law.a_state_stands_for_its_plans.Goals as goal

pub returns : goal.returns
returns c = record { covered = plans_are_covered; of_plans = states_are_of_plans; bound = handles_stay_bound }
