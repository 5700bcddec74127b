use Rattle.std.proofs.Common.{[], take}
use Rattle.replay_law.specs.Run.{EveryEraRuns, kept_steps}
use Rattle.replay_law.specs.Standing.{StandsAfter}
use Rattle.replay_law.proofs.eras.run_eras.Given as goal

-- the eras so far run, and the state stands after what they kept
abbrev pub invariant-loop-era : goal.invariant-loop-era
invariant-loop-era g l =
    let R = g.R.Replayable in
    record {
      stands : StandsAfter R.undoes (R.next l.setting) (R.start l.setting) l.replay (kept_steps (take l.era-index l.ahead)) [];
      run : EveryEraRuns (R.next l.setting) (R.start l.setting) (take l.era-index l.ahead);
    }
