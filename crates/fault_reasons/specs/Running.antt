-- For the prover, and for callers.
-- What the functions that go to a place say to the prover.
use Rattle.std.specs.Prelude.{◌≡◌, ◌+◌, ℕ, List, ◌∷◌, ◌++◌, length, Option, Some, None}
use Rattle.nfs3_types.specs.declared.calls.NfsCall.{NfsCall}
use Rattle.nfs3_types.specs.declared.replies.NfsReply.{NfsReply}
use Rattle.nfs3_types.specs.declared.replies.Outcome.{Outcome}
use Rattle.nfs_history.specs.declared.recorded.RecordedCall.{RecordedCall}
use Rattle.certificate.specs.declared.plan.Place.{Place}
use Rattle.replay_law.specs.Run.{TakenStep}
use Rattle.witness_check.specs.Run.{step_at}
use Rattle.tree_nodes.specs.Tree.{Tree}
use Rattle.file_tree.specs.Setting.{next_in}
use Rattle.file_tree.specs.StartTree.{start_tree}
use Rattle.fault_reasons.specs.declared.placed.Placed.{Placed}
use Rattle.fault_reasons.specs.declared.running.Rule.{Rule}
use Rattle.fault_reasons.specs.declared.explaining.Spot.{Spot}
use Rattle.fault_reasons.specs.declared.reason.IllegalPlace.{IllegalPlace}

-- what a call does to the tree under a rule, and what stood at first
abbrev pub next_by : Rule → Tree → ℕ → NfsCall → Outcome → Option Tree
next_by rule = next_in rule.history.now.head.profile (length rule.history.now.head.start) rule.binds.now

abbrev pub first_tree : Rule → Tree
first_tree rule = start_tree rule.history.now.head.start

-- a placed call as a step
abbrev pub placed_step : Placed → TakenStep NfsCall Outcome
placed_step placed = record { number = placed.number; call = placed.call; outcome = placed.outcome }

-- these stand ahead of this one
pub record StandsBehind {A : Type 0} (all front : List A) (x : A) : Type 0 where
  pub back : List A
  pub is : all ≡ front ++ x ∷ back

-- the place has a step that the tree doesn't take
pub record IsStuckAt (next : Tree → ℕ → NfsCall → Outcome → Option Tree) (calls : List RecordedCall) (place : Place) (tree : Tree) : Type 0 where
  pub step : TakenStep NfsCall Outcome
  pub there : step_at calls place ≡ Some step
  pub refused : next tree step.number step.call step.outcome ≡ None

-- what is told of a step
abbrev pub illegal_of : Spot → Placed → Tree → Option NfsReply → IllegalPlace
illegal_of spot step tree right = record {
  era = length spot.ahead.now + 1;
  position = length spot.front.now + 1;
  number = step.number;
  call = step.call;
  outcome = step.outcome;
  tree = tree;
  right = right;
}
