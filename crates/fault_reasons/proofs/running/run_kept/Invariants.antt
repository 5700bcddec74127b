use Rattle.std.proofs.Common.{◌≡◌, Some, take, map}
use Rattle.replay_law.specs.Run.{state_after, kept_steps}
use Rattle.witness_check.specs.Run.{era_of}
use Rattle.fault_reasons.specs.Running.{next_by}
use Rattle.fault_reasons.proofs.running.run_kept.Given as goal

-- what the eras so far keep leads here
abbrev pub invariant-loop-era : goal.invariant-loop-era
invariant-loop-era l = state_after (next_by l.rule) l.initial.tree (kept_steps (map (era_of l.rule.history.now.calls) (take l.era-index l.eras))) ≡ Some l.tree
