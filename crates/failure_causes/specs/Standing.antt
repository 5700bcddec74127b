-- For the prover.
-- what a run needs so that a crash can take back the steps past the cut
use Rattle.std.specs.Prelude.{List, []}
use Rattle.nfs3_types.specs.declared.calls.NfsCall.{NfsCall}
use Rattle.nfs3_types.specs.declared.replies.Outcome.{Outcome}
use Rattle.replay_law.specs.declared.stepping.Replay.{Replay}
use Rattle.replay_law.specs.Run.{TakenStep}
use Rattle.replay_law.specs.Standing.{StandsAfter}
use Rattle.tree_nodes.specs.Tree.{Tree}
use Rattle.tree_nodes.specs.declared.undo.Undo.{Undo}
use Rattle.tree_nodes.specs.Undo.{TakesBack}
use Rattle.file_tree.specs.declared.setting.TreeSetting.{TreeSetting}
use Rattle.file_tree.specs.Setting.{under}

-- some steps led here, and no crash loses any of them
abbrev pub HasKept : TreeSetting → Replay Tree TreeSetting NfsCall Outcome Undo → Type 0
HasKept setting replay =
    (start : Tree) × (kept : List (TakenStep NfsCall Outcome)) × StandsAfter TakesBack (under setting.profile setting.binds) start replay kept []

-- some steps led here, of which a crash loses the last ones
abbrev pub HasLost : TreeSetting → Replay Tree TreeSetting NfsCall Outcome Undo → Type 0
HasLost setting replay =
    (start : Tree) × (kept : List (TakenStep NfsCall Outcome)) × (lost : List (TakenStep NfsCall Outcome))
    × StandsAfter TakesBack (under setting.profile setting.binds) start replay kept lost
