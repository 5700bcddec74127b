-- What a run of eras tells where it doesn't come to its end.
use Rattle.std.proofs.Common.{◌≡◌, ℕ, List, [], ◌∷◌, ◌++◌, sym, subst}
use Rattle.nfs3_types.specs.declared.calls.NfsCall.{NfsCall}
use Rattle.nfs3_types.specs.declared.replies.Outcome.{Outcome}
use Rattle.replay_law.specs.declared.stepping.Replay.{Replay}
use Rattle.replay_law.specs.Run.{Era, TakenStep, EveryEraRuns, kept_steps}
use Rattle.tree_nodes.specs.Tree.{Tree}
use Rattle.tree_nodes.specs.declared.undo.Undo.{Undo}
use Rattle.file_tree.specs.declared.setting.TreeSetting.{TreeSetting}
use Rattle.witness_check.specs.declared.fault.RunEnd.{RunEnd}
use Rattle.witness_check.specs.declared.fault.RunEnd.TheVariants.{Stopped, NoMemory}
use Rattle.witness_check.specs.declared.run.Rule.{Rule}
use Rattle.witness_check.specs.Running.{next_by, first_tree, Stands, IsStopBehind, StopsAt, TellsEnd}

module _ (rule : Rule) where
  -- a stop on the state that was handed out
  pub handed_out : (kept steps : List (TakenStep NfsCall Outcome)) (number : ℕ) (state tree : Tree) → tree ≡ state → IsStopBehind rule kept steps number state
      → IsStopBehind rule kept steps number tree
  handed_out kept steps number state tree same stop = subst (λ (t : Tree). IsStopBehind rule kept steps number t) (sym same) stop

  -- an era that stops, behind eras that run
  pub tells_end : (all ahead behind : List (Era NfsCall Outcome)) (era : Era NfsCall Outcome) (replay : Replay Tree TreeSetting NfsCall Outcome Undo) (end : RunEnd)
      → all ≡ ahead ++ era ∷ behind → EveryEraRuns (next_by rule) (first_tree rule) ahead → Stands rule replay (kept_steps ahead) []
      → StopsAt rule (kept_steps ahead) era.steps end → TellsEnd (next_by rule) (first_tree rule) all end
  tells_end all ahead behind era replay (Stopped stop) parts run stands at =
      let found = at stands.base stands.reached in
      record {
        stuck = record { ahead = ahead; era = era; behind = behind; parts = parts; run = run; base = stands.base; reached = stands.reached; first = found.first };
        there = found.there;
      }
  tells_end all ahead behind era replay NoMemory parts run stands at = tt
