use Rattle.std.proofs.Common.{List, [], take}
use Rattle.nfs3_types.specs.declared.calls.NfsCall.{NfsCall}
use Rattle.nfs3_types.specs.declared.replies.Outcome.{Outcome}
use Rattle.replay_law.specs.Run.{TakenStep}
use Rattle.witness_check.specs.Run.{steps_of}
use Rattle.witness_check.specs.Running.{Stands}
use Rattle.witness_check.proofs.run.run_lost.Given as goal

-- the places so far are past the cut
abbrev pub invariant-loop-place : goal.invariant-loop-place
invariant-loop-place l =
    (kept : List (TakenStep NfsCall Outcome)) → Stands l.rule l.initial.replay kept [] → Stands l.rule l.replay kept (steps_of l.history.calls (take l.place-index l.places))
