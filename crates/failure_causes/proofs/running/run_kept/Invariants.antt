use Rattle.failure_causes.specs.Standing.{HasKept}
use Rattle.failure_causes.proofs.running.run_kept.Given as goal

abbrev pub invariant-loop-place : goal.invariant-loop-place
invariant-loop-place l = HasKept l.rule.setting.now l.replay
