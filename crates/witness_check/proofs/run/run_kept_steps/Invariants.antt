use Rattle.std.proofs.Common.{List, [], ◌++◌, take}
use Rattle.nfs3_types.specs.declared.calls.NfsCall.{NfsCall}
use Rattle.nfs3_types.specs.declared.replies.Outcome.{Outcome}
use Rattle.replay_law.specs.Run.{TakenStep}
use Rattle.witness_check.specs.Running.{Stands, found_steps}
use Rattle.witness_check.proofs.run.run_kept_steps.Given as goal

-- the steps so far are kept
abbrev pub invariant-loop-step : goal.invariant-loop-step
invariant-loop-step l =
    (kept : List (TakenStep NfsCall Outcome)) → Stands l.rule l.initial.replay kept [] → Stands l.rule l.replay (kept ++ found_steps (take l.step-index l.steps)) []
