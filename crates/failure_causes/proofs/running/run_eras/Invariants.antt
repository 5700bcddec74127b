use Rattle.failure_causes.specs.Standing.{HasKept}
use Rattle.failure_causes.proofs.running.run_eras.Given as goal

abbrev pub invariant-loop-era : goal.invariant-loop-era
invariant-loop-era l = HasKept l.rule.setting.now l.replay
