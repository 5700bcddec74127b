use Rattle.std.proofs.Common.{◌≡◌, ◌++◌, [], map, Err, sym, subst, ◌∙◌}
use Rattle.std.proofs.lemmas.Result.{err_from_is_err_and}
use Rattle.replay_law.specs.declared.run.RunFault.TheVariants.{Illegal}
use Rattle.replay_law.specs.Run.{IsFirstIllegal}
use Rattle.replay_law.specs.Standing.{StandsAfter}
use Rattle.replay_law.specs.Steps.{taken_of}
use Rattle.replay_law.proofs.Crashes.{from_base}
use Rattle.replay_law.proofs.Within.{first_of_front, first_behind, era_parts, era_front, era_runs}
use Rattle.replay_law.proofs.eras.run_era.Goals as goal

pub returns-in_err-run_kept-clause-illegal : goal.returns-in_err-run_kept-clause-illegal
returns-in_err-run_kept-clause-illegal g c = λ number is kept base reached s.
    let next = g.R.Replayable.next c.args.setting.now in
    let parts = era_parts taken_of c.steps.result.now _ _ c.args.era.now.steps c.kept.result c.steps.ensures.value c.split_at.ensures.front c.split_at.ensures.back in
    let fault = err_from_is_err_and c.from_residual.result c.from_residual.ensures.1 in
    let was : c.run_kept.result ≡ Err c.in_err-run_kept.field-0.0 = c.in_err-run_kept.was in
    let refused : c.run_kept.result ≡ Err (Illegal number) = cc (fault.1, fault.2, was, is) in
    let found = c.run_kept.ensures.illegal number refused kept base reached s in
    subst (λ steps. IsFirstIllegal next base steps number) (sym parts) (first_of_front next base _ (map taken_of c.split_at.result.1.now) number found)

pub returns-in_err-run_lost-clause-illegal : goal.returns-in_err-run_lost-clause-illegal
returns-in_err-run_lost-clause-illegal g c = λ number is kept base reached s.
    let next = g.R.Replayable.next c.args.setting.now in
    let start = g.R.Replayable.start c.args.setting.now in
    let front = map taken_of c.split_at.result.0.now in
    let parts = era_parts taken_of c.steps.result.now _ _ c.args.era.now.steps c.kept.result c.steps.ensures.value c.split_at.ensures.front c.split_at.ensures.back in
    let fault = err_from_is_err_and c.from_residual-in_err-run_lost.result c.from_residual-in_err-run_lost.ensures.1 in
    let was : c.run_lost.result ≡ Err c.in_err-run_lost.field-0.0 = c.in_err-run_lost.was in
    let refused : c.run_lost.result ≡ Err (Illegal number) = cc (fault.1, fault.2, was, is) in
    let stands = c.in_ok-run_kept.ensures.ok kept s in
    let found = c.run_lost.ensures.illegal number refused (kept ++ front) stands.base stands.reached stands in
    let middle = sym (from_base next start base kept front reached) ∙ stands.reached in
    subst (λ steps. IsFirstIllegal next base steps number) (sym parts) (first_behind next base stands.base front _ number middle found)

pub crash-requires : goal.crash-requires
crash-requires g c =
    let kept = c.requires.0 in
    let stands = c.in_ok-run_lost.ensures.ok (kept ++ map taken_of c.split_at.result.0.now) (c.in_ok-run_kept.ensures.ok kept c.requires.1) in
    (stands.base, stands.back)

pub returns-clause-runs : goal.returns-clause-runs
returns-clause-runs g c = λ kept s.
    let R = g.R.Replayable in
    let front = map taken_of c.split_at.result.0.now in
    let parts = era_parts taken_of c.steps.result.now _ _ c.args.era.now.steps c.kept.result c.steps.ensures.value c.split_at.ensures.front c.split_at.ensures.back in
    era_runs R.undoes (R.next c.args.setting.now) (R.start c.args.setting.now) c.run_lost.new.replay kept front _ _ parts
    (c.in_ok-run_lost.ensures.ok (kept ++ front) (c.in_ok-run_kept.ensures.ok kept s))

pub returns-clause-crashed : goal.returns-clause-crashed
returns-clause-crashed g c = λ kept s.
    let R = g.R.Replayable in
    let front = map taken_of c.split_at.result.0.now in
    let kept_front = era_front taken_of c.steps.result.now _ c.args.era.now.steps c.kept.result _ c.steps.ensures.value c.split_at.ensures.front c.kept.ensures in
    let stands = c.in_ok-run_lost.ensures.ok (kept ++ front) (c.in_ok-run_kept.ensures.ok kept s) in
    let after = c.in_ok-after.ensures (R.next c.args.setting.now) (R.start c.args.setting.now) (kept ++ front) (map taken_of c.split_at.result.1.now) stands in
    subst (λ steps. StandsAfter R.undoes (R.next c.args.setting.now) (R.start c.args.setting.now) c.in_ok-after.after (kept ++ steps) []) kept_front after
