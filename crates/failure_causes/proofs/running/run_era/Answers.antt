use Rattle.file_tree.specs.Setting.{under}
use Rattle.failure_causes.proofs.running.run_era.Goals as goal

pub returns : goal.returns
returns c =
    let setting = c.args.rule.now.setting.now in
    let stands = c.in_ok-run_lost.ensures in
    (stands.0, stands.1, c.in_ok-after.ensures (under setting.profile setting.binds) stands.0 stands.1 stands.2 stands.3)
