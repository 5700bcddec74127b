-- For the prover.
-- What the functions that run a plan say to the prover.
use Rattle.std.specs.Prelude.{◌≡◌, ℕ, List, [], ◌∷◌, ◌++◌, length, Option, Some, None, option_map}
use Rattle.std.specs.List.{filter_map}
use Rattle.nfs3_types.specs.declared.calls.NfsCall.{NfsCall}
use Rattle.nfs3_types.specs.declared.replies.Outcome.{Outcome}
use Rattle.nfs3_types.specs.declared.replies.Outcome.TheVariants as outcomes
use Rattle.certificate.specs.declared.plan.Place.{Place}
use Rattle.certificate.specs.declared.plan.Place.TheVariants.{Answered, Taken}
use Rattle.replay_law.specs.declared.stepping.Replay.{Replay}
use Rattle.replay_law.specs.Run as run
use Rattle.replay_law.specs.Run.{state_after}
use Rattle.replay_law.specs.Standing as standing
use Rattle.tree_nodes.specs.Tree.{Tree}
use Rattle.tree_nodes.specs.declared.undo.Undo.{Undo}
use Rattle.tree_nodes.specs.Undo.{TakesBack}
use Rattle.file_tree.specs.declared.setting.TreeSetting.{TreeSetting}
use Rattle.file_tree.specs.Setting.{next_in}
use Rattle.file_tree.specs.StartTree.{start_tree}
use Rattle.witness_check.specs.declared.run.Found.{Found}
use Rattle.witness_check.specs.declared.run.Rule.{Rule}
use Rattle.witness_check.specs.declared.fault.RunEnd.{RunEnd}
use Rattle.witness_check.specs.declared.fault.RunEnd.TheVariants.{Stopped, NoMemory}
use Rattle.witness_check.specs.Stop.{IsFirstStop, IsStopInEras}

-- what a call does to the tree under a rule, and what stood at first
abbrev pub next_by : Rule → Tree → ℕ → NfsCall → Outcome → Option Tree
next_by rule = next_in rule.setting.profile (length rule.start.now) rule.setting.binds

abbrev pub first_tree : Rule → Tree
first_tree rule = start_tree rule.start.now

-- how a call came out at a place, of one that is taken as the place says
abbrev pub outcome_at : Place → Option Outcome → Option Outcome
outcome_at (Answered n) received = received
outcome_at (Taken n count) received = Some (outcomes.Taken count)

-- a call that was found at a place, as a step
abbrev pub found_step : Found → run.TakenStep NfsCall Outcome
found_step found = record { number = found.number; call = found.call; outcome = found.outcome }

-- the steps of what was found at places
abbrev pub found_steps : List (Option Found) → List (run.TakenStep NfsCall Outcome)
found_steps found = filter_map (option_map found_step) found

-- a run that stands after these steps, those behind the cut last
abbrev pub Stands : Rule → Replay Tree TreeSetting NfsCall Outcome Undo → List (run.TakenStep NfsCall Outcome) → List (run.TakenStep NfsCall Outcome) → Type 0
Stands rule replay kept lost = standing.StandsAfter TakesBack (next_by rule) (first_tree rule) replay kept lost

-- the tree after these steps from what stood at first
abbrev pub tree_after : Rule → List (run.TakenStep NfsCall Outcome) → Option Tree
tree_after rule steps = state_after (next_by rule) (first_tree rule) steps

-- the step, if there is one, is of this call and has no next tree behind these steps
abbrev pub IsStuckAt : Rule → List (run.TakenStep NfsCall Outcome) → Option (run.TakenStep NfsCall Outcome) → ℕ → Type 0
IsStuckAt rule steps None number = ⊥
IsStuckAt rule steps (Some step) number = (step.number ≡ number) × (tree_after rule (steps ++ step ∷ []) ≡ None)

-- the steps have a first illegal one behind those that were kept, which is of this call, and the tree is the one that it finds
abbrev pub IsStopBehind : Rule → List (run.TakenStep NfsCall Outcome) → List (run.TakenStep NfsCall Outcome) → ℕ → Tree → Type 0
IsStopBehind rule kept steps number tree = (base : Tree) → tree_after rule kept ≡ Some base → IsFirstStop (next_by rule) base steps number tree

-- what a run of these steps tells where it doesn't come to their end
abbrev pub StopsAt : Rule → List (run.TakenStep NfsCall Outcome) → List (run.TakenStep NfsCall Outcome) → RunEnd → Type 0
StopsAt rule kept steps (Stopped stop) = IsStopBehind rule kept steps stop.number stop.tree
StopsAt rule kept steps NoMemory = Unit {0}

-- the same of a run of eras
abbrev pub TellsEnd : (Tree → ℕ → NfsCall → Outcome → Option Tree) → Tree → List (run.Era NfsCall Outcome) → RunEnd → Type 0
TellsEnd next start eras (Stopped stop) = IsStopInEras next start eras stop.number stop.tree
TellsEnd next start eras NoMemory = Unit {0}
