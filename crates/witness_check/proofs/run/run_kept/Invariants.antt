use Rattle.std.proofs.Common.{◌≡◌, List, [], ◌++◌, length}
use Rattle.nfs3_types.specs.declared.calls.NfsCall.{NfsCall}
use Rattle.nfs3_types.specs.declared.replies.Outcome.{Outcome}
use Rattle.certificate.specs.declared.plan.Place.{Place}
use Rattle.replay_law.specs.Run.{TakenStep}
use Rattle.witness_check.specs.Run.{steps_of}
use Rattle.witness_check.specs.Running.{Stands}
use Rattle.witness_check.proofs.run.run_kept.Given as goal

-- the places ahead of those that are left are kept
abbrev pub invariant-loop-rest : goal.invariant-loop-rest
invariant-loop-rest l = (done : List Place) × (done ++ l.rest ≡ l.places)
    × ((kept : List (TakenStep NfsCall Outcome)) → Stands l.rule l.initial.replay kept [] → Stands l.rule l.replay (kept ++ steps_of l.history.calls done) [])

-- a turn takes a place at least
abbrev pub decreases-loop-rest : goal.decreases-loop-rest
decreases-loop-rest l = length l.rest
