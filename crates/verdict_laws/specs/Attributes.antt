-- For the prover, and for callers.
-- The attributes that replies gave, under the strict profile (RFC 1813, section 2.6: `fattr3`; sections 3.3.1 and 3.3.6).
use Rattle.std.specs.Prelude.{◌≡◌, ℕ, List, ◌∷◌, ◌++◌, Some}
use Rattle.std.specs.List.{flat_map}
use Rattle.nfs3_types.specs.declared.attributes.FileAttributes.{FileAttributes}
use Rattle.nfs3_types.specs.declared.calls.NfsCall.{NfsCall}
use Rattle.nfs3_types.specs.declared.calls.NfsCall.TheVariants as calls
use Rattle.nfs3_types.specs.declared.calls.ReadArguments.{ReadArguments}
use Rattle.nfs3_types.specs.declared.replies.Answer.TheVariants.{Done}
use Rattle.nfs3_types.specs.declared.replies.ReadSuccess.{ReadSuccess}
use Rattle.nfs3_types.specs.declared.replies.NfsReply.{NfsReply}
use Rattle.nfs3_types.specs.declared.replies.NfsReply.TheVariants as replies
use Rattle.nfs3_types.specs.declared.replies.Outcome.TheVariants.{Received}
use Rattle.replay_law.specs.Run.{state_after}
use Rattle.tree_starts.specs.declared.profile.Profile.TheVariants.{Strict}
use Rattle.nfs_history.specs.declared.knowing.KnownCalls.{KnownCalls}
use Rattle.certificate.specs.declared.plan.Certificate.{Certificate}
use Rattle.certificate.specs.declared.plan.EraPlan.{EraPlan}
use Rattle.certificate.specs.declared.plan.Place.{Place}
use Rattle.certificate.specs.declared.plan.Place.TheVariants.{Answered}
use Rattle.tree_nodes.specs.declared.node.Node.{Node}
use Rattle.tree_nodes.specs.Tree.{Names, Tree}
use Rattle.tree_handles.specs.Binding.{Bindings}
use Rattle.tree_handles.specs.Live.{live_entry}
use Rattle.tree_laws.specs.Profiles.{AreTrue}
use Rattle.cut_check.specs.Places.{answered_at, bindings_of}
use Rattle.witness_check.specs.Run.{steps_of, next_of, base_of}
use Rattle.witness_check.specs.Witness.{IsWitness}
use Rattle.verdict_laws.specs.Kept.{left_of}

-- the plan puts a call with this reply at a place of some era, and the places ahead of it that this era sees lead to this tree
pub record StandsAt (history : KnownCalls) (plan : Certificate) (call : NfsCall) (reply : NfsReply) (tree : Tree) : Type 0 where
  pub ahead : List EraPlan
  pub era : EraPlan
  pub behind : List EraPlan
  pub eras : plan.eras ≡ ahead ++ era ∷ behind
  pub first : List Place
  pub n : ℕ
  pub more : List Place
  pub places : era.places ≡ first ++ Answered n ∷ more
  pub answered : answered_at history.calls (Answered n) ≡ Some (call, Received reply)
  pub leads : state_after (next_of history plan) (base_of history) (steps_of history.calls (flat_map left_of ahead ++ first)) ≡ Some tree

-- the handle names an object that stands in the tree, of which the attributes tell the truth
abbrev pub TellTruth : Bindings → Tree → List ℕ → FileAttributes → Type 0
TellTruth binds tree handle attributes = (e : Names × Node) × (live_entry binds tree handle ≡ Some e) × AreTrue e.1.content attributes

-- the attributes that a GETATTR gave are those of its object in the tree at its place
abbrev pub GetAttrToldTruth : Type 0
GetAttrToldTruth =
    (history : KnownCalls) (plan : Certificate) (object : List ℕ) (attributes : FileAttributes) (tree : Tree) → IsWitness history plan → history.head.profile ≡ Strict
    → StandsAt history plan (calls.GetAttr object) (replies.GetAttr (Done attributes)) tree → TellTruth (bindings_of history.head.root plan.binds) tree object attributes

-- and so are those that a READ gave, if it gave any
abbrev pub ReadToldTruth : Type 0
ReadToldTruth =
    (history : KnownCalls) (plan : Certificate) (read : ReadArguments) (answer : ReadSuccess) (attributes : FileAttributes) (tree : Tree) → IsWitness history plan → history.head.profile ≡ Strict
    → StandsAt history plan (calls.Read read) (replies.Read (Done answer)) tree → answer.attributes ≡ Some attributes
    → TellTruth (bindings_of history.head.root plan.binds) tree read.file attributes
