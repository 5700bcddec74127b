use Rattle.failure_causes.specs.Standing.{HasLost}
use Rattle.failure_causes.proofs.running.run_lost.Given as goal

abbrev pub invariant-loop-place : goal.invariant-loop-place
invariant-loop-place l = HasLost l.rule.setting.now l.replay
