-- For the prover, and for callers.
-- what a step of a run says
use Rattle.replay_law.specs.declared.run.Step.{Step}
use Rattle.replay_law.specs.Run.{TakenStep}

-- a step as a numbered call with its outcome
abbrev pub taken_of : {Call Outcome : Type 0} → Step Call Outcome → TakenStep Call Outcome
taken_of step = record { number = step.number; call = step.call; outcome = step.outcome }
