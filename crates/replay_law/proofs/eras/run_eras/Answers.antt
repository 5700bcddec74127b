use Rattle.std.proofs.Common.{◌≡◌, ◌+◌, [], ◌∷◌, ◌++◌, take, drop, Err, refl, sym, ap, ◌∙◌, subst, arith}
use Rattle.std.specs.Prelude.{IsSome}
use Rattle.std.proofs.lemmas.List.{take_all}
use Rattle.std.proofs.lemmas.Result.{err_from_is_err_and, IfOk-from_err, on_ok_weaker}
use Rattle.replay_law.specs.declared.run.RunFault.TheVariants.{Illegal}
use Rattle.replay_law.specs.Run.{IsFirstIllegal, EveryEraRuns, state_after, kept_steps}
use Rattle.replay_law.specs.Standing.{StandsAfter}
use Rattle.replay_law.proofs.Places.{take_one_more, place_ahead}
use Rattle.replay_law.proofs.Crashes.{none_runs, one_more_runs, kept_one_more, only_memory, is_named}
use Rattle.replay_law.proofs.eras.run_eras.Goals as goal

pub loop-era-init : goal.loop-era-init
loop-era-init g c = record {
  stands = c.in_ok-replay.ensures;
  run = none_runs (g.R.Replayable.next c.args.setting.now) (g.R.Replayable.start c.args.setting.now);
}

pub loop-era-preserved : goal.loop-era-preserved
loop-era-preserved g c =
    let R = g.R.Replayable in
    let next = R.next c.args.setting.now in
    let start = R.start c.args.setting.now in
    let ahead = c.in-Some.ahead.now in
    let era = c.era-item.result in
    let so_far = take c.loop-era.era-index ahead in
    let more = take_one_more ahead c.loop-era.era-index era (omega arith) c.era-item.is in
    let stands = c.loop-era.invariant.stands in
    record {
      stands = subst (λ steps. StandsAfter R.undoes next start c.in_ok-replay-2.replay steps []) (sym (ap kept_steps more ∙ kept_one_more so_far era))
          (c.in_ok-replay-2.ensures.crashed (kept_steps so_far) stands);
      run = subst (λ eras. EveryEraRuns next start eras) (sym more) (one_more_runs next start so_far era c.loop-era.invariant.run (c.in_ok-replay-2.ensures.runs (kept_steps so_far) stands));
    }

pub returns-in_err-replay-2-clause-illegal : goal.returns-in_err-replay-2-clause-illegal
returns-in_err-replay-2-clause-illegal g c = λ number is.
    let ahead = c.in-Some.ahead.now in
    let i = c.loop-era.era-index in
    let era = c.era-item.result in
    let stands = c.loop-era.invariant.stands in
    let fault = err_from_is_err_and c.from_residual-in_err-replay-2.result c.from_residual-in_err-replay-2.ensures.1 in
    let was : c.run_era.result ≡ Err c.in_err-replay-2.field-0.0 = c.in_err-replay-2.was in
    let refused : c.run_era.result ≡ Err (Illegal number) = cc (fault.1, fault.2, was, is) in
    record {
      ahead = take i ahead;
      era = era;
      behind = drop (i + 1) ahead ++ c.in-Some.last.now ∷ [];
      parts = place_ahead c.args.eras.now ahead i era c.in-Some.last.now c.in-Some.ensures.cases.0 (omega arith) c.era-item.is;
      run = c.loop-era.invariant.run;
      base = stands.base;
      reached = stands.reached;
      first = c.run_era.ensures.illegal number refused (kept_steps (take i ahead)) stands.base stands.reached stands;
    }

pub returns-in_err-replay-2-clause-only : goal.returns-in_err-replay-2-clause-only
returns-in_err-replay-2-clause-only g c =
    only_memory (g.R.Replayable.next c.args.setting.now) (g.R.Replayable.start c.args.setting.now) c.from_residual-in_err-replay-2.result c.args.eras.now
    (returns-in_err-replay-2-clause-illegal g c)

pub returns-in_err-replay-2-clause-named : goal.returns-in_err-replay-2-clause-named
returns-in_err-replay-2-clause-named g c =
    is_named (g.R.Replayable.next c.args.setting.now) (g.R.Replayable.start c.args.setting.now) c.from_residual-in_err-replay-2.result c.args.eras.now
    (IfOk-from_err c.from_residual-in_err-replay-2.result _ c.from_residual-in_err-replay-2.ensures.0) (returns-in_err-replay-2-clause-illegal g c)

pub returns-clause-ok : goal.returns-clause-ok
returns-clause-ok g c =
    let R = g.R.Replayable in
    let next = R.next c.args.setting.now in
    let start = R.start c.args.setting.now in
    let ahead = c.in-Some.ahead.now in
    let last = c.in-Some.last.now in
    let all = take_all c.loop-era.era-index ahead (omega arith) in
    let run = subst (λ eras. EveryEraRuns next start eras) all c.loop-era.invariant.run in
    let stands = subst (λ eras. StandsAfter R.undoes next start c.loop-era.replay (kept_steps eras) []) all c.loop-era.invariant.stands in
    on_ok_weaker c.run_kept.result
    (λ more.
    let done = more (kept_steps ahead) stands in
    let runs = subst IsSome (sym (ap (λ steps. state_after next start (kept_steps ahead ++ steps)) (sym c.steps.ensures.value) ∙ done.reached)) refl in
    subst (λ eras. EveryEraRuns next start eras) (sym c.in-Some.ensures.cases.0) (one_more_runs next start ahead last run runs))
    c.run_kept.ensures.ok

pub returns-clause-illegal : goal.returns-clause-illegal
returns-clause-illegal g c = λ number is.
    let R = g.R.Replayable in
    let next = R.next c.args.setting.now in
    let start = R.start c.args.setting.now in
    let ahead = c.in-Some.ahead.now in
    let all = take_all c.loop-era.era-index ahead (omega arith) in
    let stands = subst (λ eras. StandsAfter R.undoes next start c.loop-era.replay (kept_steps eras) []) all c.loop-era.invariant.stands in
    record {
      ahead = ahead;
      era = c.in-Some.last.now;
      behind = [];
      parts = c.in-Some.ensures.cases.0;
      run = subst (λ eras. EveryEraRuns next start eras) all c.loop-era.invariant.run;
      base = stands.base;
      reached = stands.reached;
      first = subst (λ steps. IsFirstIllegal next stands.base steps number) c.steps.ensures.value
          (c.run_kept.ensures.illegal number is (kept_steps ahead) stands.base stands.reached stands);
    }

pub returns-clause-only : goal.returns-clause-only
returns-clause-only g c =
    only_memory (g.R.Replayable.next c.args.setting.now) (g.R.Replayable.start c.args.setting.now) c.run_kept.result c.args.eras.now (returns-clause-illegal g c)

pub returns-clause-named : goal.returns-clause-named
returns-clause-named g c =
    is_named (g.R.Replayable.next c.args.setting.now) (g.R.Replayable.start c.args.setting.now) c.run_kept.result c.args.eras.now (returns-clause-ok g c) (returns-clause-illegal g c)
