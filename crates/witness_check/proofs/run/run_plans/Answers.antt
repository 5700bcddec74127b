use Rattle.std.proofs.Common.{◌+◌, List, [], ◌++◌, take, drop, map, sym, ap, ◌∙◌, subst}
use Rattle.std.proofs.lemmas.List.{take_all}
use Rattle.std.proofs.lemmas.Result.{err_from_is_err_and}
use Rattle.nfs3_types.specs.declared.calls.NfsCall.{NfsCall}
use Rattle.nfs3_types.specs.declared.replies.Outcome.{Outcome}
use Rattle.certificate.specs.declared.plan.EraPlan.{EraPlan}
use Rattle.replay_law.specs.Run.{Era, TakenStep, EveryEraRuns, kept_steps}
use Rattle.replay_law.proofs.Runs.{map_more, map_parts}
use Rattle.replay_law.proofs.Crashes.{none_runs, one_more_runs, kept_one_more}
use Rattle.witness_check.specs.Run.{step_at, era_of}
use Rattle.witness_check.specs.Running.{next_by, first_tree, Stands}
use Rattle.certificate.specs.Plan.{cut_of}
use Rattle.tree_nodes.specs.Tree.{Tree}
use Rattle.tree_nodes.specs.Undo.{TakesBack}
use Rattle.replay_law.specs.Standing as standing
use Rattle.witness_check.proofs.Ends.{tells_end}
use Rattle.witness_check.proofs.Steps.{kept}
use Rattle.witness_check.proofs.run.run_plans.Goals as goal

pub loop-era-init : goal.loop-era-init
loop-era-init c = record {
  stands = subst (λ (t : Tree). standing.StandsAfter TakesBack (next_by c.args.rule.now) t c.from_state-replay.result [] []) c.in_ok-tree.ensures (c.from_state-replay.ensures (next_by c.args.rule.now));
  run = none_runs (next_by c.args.rule.now) (first_tree c.args.rule.now);
}

pub loop-era-preserved : goal.loop-era-preserved
loop-era-preserved c =
    let next = next_by c.args.rule.now in
    let calls = c.args.history.now.calls in
    let era = c.era-item.result in
    let so_far = map (era_of calls) (take c.loop-era.era-index c.args.eras.now) in
    let more = map_more (era_of calls) c.args.eras.now c.loop-era.era-index era c.loop-era-test.true c.era-item.is in
    let stands = c.loop-era.invariant.stands in
    let crashed = c.in_ok-replay.ensures.crashed (kept_steps so_far) stands in
    let front = kept (step_at calls) (cut_of era) era.places in
    let kept_front = ap (λ (xs : List (TakenStep NfsCall Outcome)). kept_steps so_far ++ xs) (sym front) in
    record {
      stands = subst (λ (steps : List (TakenStep NfsCall Outcome)). Stands c.args.rule.now c.in_ok-replay.replay steps []) (kept_front ∙ sym (ap kept_steps more ∙ kept_one_more so_far (era_of calls era))) crashed;
      run = subst (λ (eras : List (Era NfsCall Outcome)). EveryEraRuns next (first_tree c.args.rule.now) eras) (sym more)
          (one_more_runs next (first_tree c.args.rule.now) so_far (era_of calls era) c.loop-era.invariant.run (c.in_ok-replay.ensures.runs (kept_steps so_far) stands));
    }

pub returns-in_err-replay-clause-stopped : goal.returns-in_err-replay-clause-stopped
returns-in_err-replay-clause-stopped c =
    let calls = c.args.history.now.calls in
    let i = c.loop-era.era-index in
    let era = c.era-item.result in
    let so_far = map (era_of calls) (take i c.args.eras.now) in
    let parts = map_parts (era_of calls) c.args.eras.now i era c.loop-era-test.true c.era-item.is in
    let p = err_from_is_err_and c.from_residual-in_err-replay.result c.from_residual-in_err-replay.ensures.1 in
    rw (p.1, p.2) (tells_end c.args.rule.now (map (era_of calls) c.args.eras.now) so_far (map (era_of calls) (drop (i + 1) c.args.eras.now)) (era_of calls era) c.loop-era.replay c.in_err-replay.field-0.0
    parts c.loop-era.invariant.run c.loop-era.invariant.stands (c.in_err-replay.ensures.stopped (kept_steps so_far) c.loop-era.invariant.stands))

pub returns-clause-ok : goal.returns-clause-ok
returns-clause-ok c =
    let next = next_by c.args.rule.now in
    subst (λ (eras : List EraPlan). EveryEraRuns next (first_tree c.args.rule.now) (map (era_of c.args.history.now.calls) eras)) (take_all c.loop-era.era-index c.args.eras.now c.loop-era-test.false) c.loop-era.invariant.run
