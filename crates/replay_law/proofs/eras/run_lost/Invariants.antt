use Rattle.std.proofs.Common.{List, [], map, take}
use Rattle.replay_law.specs.Run.{TakenStep}
use Rattle.replay_law.specs.Standing.{StandsAfter}
use Rattle.replay_law.specs.Steps.{taken_of}
use Rattle.replay_law.proofs.eras.run_lost.Given as goal

-- the steps so far are past the cut
abbrev pub invariant-loop-step : goal.invariant-loop-step
invariant-loop-step g l =
    let R = g.R.Replayable in
    (kept : List (TakenStep g.row.R-Call.Denot g.row.R-Outcome.Denot)) → StandsAfter R.undoes (R.next l.setting) (R.start l.setting) l.initial.replay kept []
    → StandsAfter R.undoes (R.next l.setting) (R.start l.setting) l.replay kept (map taken_of (take l.step-index l.steps))
