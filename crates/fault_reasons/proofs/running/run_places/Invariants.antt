use Rattle.std.proofs.Common.{◌≡◌, Some, take}
use Rattle.replay_law.specs.Run.{state_after}
use Rattle.witness_check.specs.Run.{steps_of}
use Rattle.fault_reasons.specs.Running.{next_by}
use Rattle.fault_reasons.proofs.running.run_places.Given as goal

-- the places so far lead here
abbrev pub invariant-loop-place : goal.invariant-loop-place
invariant-loop-place l = state_after (next_by l.rule) l.initial.tree (steps_of l.rule.history.now.calls (take l.place-index l.places)) ≡ Some l.tree
