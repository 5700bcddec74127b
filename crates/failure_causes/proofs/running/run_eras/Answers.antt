use Rattle.std.proofs.Common.{[]}
use Rattle.file_tree.specs.Setting.{under}
use Rattle.failure_causes.proofs.running.run_eras.Goals as goal

pub loop-era-init : goal.loop-era-init
loop-era-init c =
    let setting = c.args.rule.now.setting.now in
    (c.in_ok-tree.tree, [], c.from_state-replay.ensures (under setting.profile setting.binds))
