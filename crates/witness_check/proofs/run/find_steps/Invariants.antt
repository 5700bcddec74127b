use Rattle.std.proofs.Common.{◌≡◌, take}
use Rattle.witness_check.specs.Run.{steps_of}
use Rattle.witness_check.specs.Running.{found_steps}
use Rattle.witness_check.proofs.run.find_steps.Given as goal

-- what was found so far are the steps of the places so far
abbrev pub invariant-loop-place : goal.invariant-loop-place
invariant-loop-place l = found_steps l.steps.items ≡ steps_of l.history.calls (take l.place-index l.places)
