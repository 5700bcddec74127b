-- For the prover, and for callers.
-- The tree that a journal's records lead to, from what stood at first (a journal of this project's own; what a call makes of a tree is
-- RFC 1813's).
use Rattle.std.specs.Prelude.{◌≡◌, ℕ, ◌+◌, ◌<◌, ◌^◌, List, [], ◌∷◌, ◌++◌, length, map, Some}
use Rattle.std.specs.List.{AllByRecursion, range_with_len}
use Rattle.xdr_records.specs.Texts.{long_text}
use Rattle.nfs3_types.specs.declared.calls.NfsCall.{NfsCall}
use Rattle.nfs3_types.specs.declared.replies.Outcome.{Outcome}
use Rattle.nfs3_types.specs.declared.replies.Outcome.TheVariants.{Received}
use Rattle.replay_law.specs.Run.{TakenStep, state_after}
use Rattle.journal.specs.declared.change.Change.{Change}
use Rattle.journal.specs.Journal.{IsJournalRecord}
use Rattle.tree_starts.specs.Start.{object_made}
use Rattle.tree_starts.specs.declared.object.StartObject.{StartObject}
use Rattle.tree_starts.specs.declared.profile.Profile.{Profile}
use Rattle.tree_nodes.specs.Tree.{Tree}
use Rattle.tree_handles.specs.Binding.{Bindings}
use Rattle.file_tree.specs.Setting.{next_in}
use Rattle.file_tree.specs.StartTree.{start_tree}
use Rattle.journal.specs.declared.rebuild_fault.RebuildFault.{RebuildFault}
use Rattle.journal.specs.declared.rebuild_fault.RebuildFault.TheVariants.{NoRecord, NotLegal, NoMemory}

-- the handle of an object is its number in eight bytes, the highest first
abbrev pub handle_of : ℕ → List ℕ
handle_of object = long_text object

-- what handles name: the root's object 0, and that of each of these numbers that object
abbrev pub bindings_made : List ℕ → Bindings
bindings_made numbers = record { root = handle_of 0; pairs = map (λ object. (handle_of object, object)) numbers }

-- the records are those of these changes
abbrev pub AreJournalRecords : List (List ℕ) → List Change → Type 0
AreJournalRecords [] [] = Unit {0}
AreJournalRecords (bytes ∷ records) (change ∷ changes) = IsJournalRecord bytes change × AreJournalRecords records changes
AreJournalRecords records changes = ⊥

-- a change as a step of a run: its call, under the call's own number, with the reply
abbrev pub step_in : Change → TakenStep NfsCall Outcome
step_in change = record { number = change.written.number; call = change.call; outcome = Received change.reply }

abbrev pub numbers_in : List Change → List ℕ
numbers_in changes = map (λ change. change.written.number) changes

-- the object that a change's call makes, if any, where so many objects stood at first
abbrev pub object_in : ℕ → Change → ℕ
object_in first change = object_made first change.written.number

-- its number is one: it has 64 bits
abbrev pub IsNumbered : ℕ → Change → Type 0
IsNumbered first change = object_in first change < 2 ^ 64

-- the objects that have a handle: those that stood at first, 1, 2 and so on, and those of the changes
abbrev pub objects_named : ℕ → List Change → List ℕ
objects_named first changes = range_with_len 1 first ++ map (object_in first) changes

-- the tree behind the records: each reads as a change, and the changes are a legal run under this profile from what stood at first to
-- that tree, where each object's handle is its number
pub record Rebuilds (profile : Profile) (start : List StartObject) (records : List (List ℕ)) (tree : Tree) : Type 0 where
  pub changes : List Change
  pub are : AreJournalRecords records changes
  pub numbered : AllByRecursion (IsNumbered (length start)) changes
  pub leads : state_after (next_in profile (length start) (bindings_made (objects_named (length start) changes))) (start_tree start) (map step_in changes) ≡ Some tree

-- this record is the first at fault, by its number from 1: those ahead of it lead to a tree, and with it they lead to none
pub record IsFirstBad (profile : Profile) (start : List StartObject) (records : List (List ℕ)) (number : ℕ) (bad : List ℕ) : Type 0 where
  pub ahead : List (List ℕ)
  pub behind : List (List ℕ)
  pub parts : records ≡ ahead ++ bad ∷ behind
  pub place : number ≡ length ahead + 1
  pub tree : Tree
  pub leads : Rebuilds profile start ahead tree
  pub stops : (after : Tree) → ¬ Rebuilds profile start (ahead ++ bad ∷ []) after

-- what a fault says: the first record at fault isn't that of a change, or it is, and its change isn't legal there. A change whose object
-- has no number isn't
abbrev pub FaultHolds : Profile → List StartObject → List (List ℕ) → RebuildFault → Type 0
FaultHolds profile start records (NoRecord number) = (bad : List ℕ) × IsFirstBad profile start records number bad × ((change : Change) → ¬ IsJournalRecord bad change)
FaultHolds profile start records (NotLegal number) = (bad : List ℕ) × IsFirstBad profile start records number bad × ((change : Change) × IsJournalRecord bad change)
FaultHolds profile start records NoMemory = Unit {0}
