use Rattle.witness_check.proofs.run.run_lost_place.Goals as goal

pub returns-clause-ok : goal.returns-clause-ok
returns-clause-ok c = rw c.in_ok-found.ensures at c.run_lost_step-step.ensures.ok
