use Rattle.std.proofs.Common.{[], map, take}
use Rattle.replay_law.specs.Run.{EveryEraRuns, kept_steps}
use Rattle.witness_check.specs.Run.{era_of}
use Rattle.witness_check.specs.Running.{next_by, first_tree, Stands}
use Rattle.witness_check.proofs.run.run_plans.Given as goal

-- the eras so far run, and the tree stands after what they kept
abbrev pub invariant-loop-era : goal.invariant-loop-era
invariant-loop-era l =
    record {
      stands : Stands l.rule l.replay (kept_steps (map (era_of l.history.calls) (take l.era-index l.eras))) [];
      run : EveryEraRuns (next_by l.rule) (first_tree l.rule) (map (era_of l.history.calls) (take l.era-index l.eras));
    }
