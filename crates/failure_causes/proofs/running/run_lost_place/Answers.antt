use Rattle.std.proofs.Common.{[], ◌∷◌, ◌++◌, refl}
use Rattle.file_tree.specs.Setting.{under}
use Rattle.failure_causes.proofs.running.run_lost_place.Goals as goal

pub returns : goal.returns
returns c =
    let setting = c.args.rule.now.setting.now in
    let object = c.saturating_add-object.result in
    let placed = c.in-Some.placed in
    let stands = c.requires in (
      stands.0,
      stands.1,
      stands.2 ++ record { number = object; call = placed.call; outcome = placed.outcome } ∷ [],
      c.in_ok-step_lost.ensures.ok (under setting.profile setting.binds) stands.0 object stands.1 stands.2 (λ state. refl) stands.3,
    )
