-- For the prover.
-- records that are taken one after the other, for private functions
use Rattle.std.specs.Prelude.{◌≡◌, ℕ, ◌+◌, List, [], ◌∷◌, ◌++◌, length, Option, Some, None, option_and_then}
use Rattle.std.specs.List.{AllByRecursion, range_with_len}
use Rattle.nfs3_types.specs.declared.replies.Outcome.TheVariants.{Received}
use Rattle.journal.specs.declared.change.Change.{Change}
use Rattle.journal.specs.Exactly.{IsOnly, MeansNothing}
use Rattle.journal.specs.Journal.{IsJournalRecord}
use Rattle.tree_starts.specs.Start.{IsStart}
use Rattle.tree_starts.specs.declared.object.StartObject.{StartObject}
use Rattle.tree_starts.specs.declared.profile.Profile.{Profile}
use Rattle.tree_nodes.specs.Tree.{Tree}
use Rattle.tree_handles.specs.Binding.{Bindings}
use Rattle.file_tree.specs.Setting.{under}
use Rattle.file_tree.specs.StartTree.{start_tree}
use Rattle.journal.specs.declared.rebuild_fault.RebuildFault.{RebuildFault}
use Rattle.journal.specs.declared.rebuild_fault.RebuildFault.TheVariants.{NoRecord, NotLegal, NoMemory}
use Rattle.journal.specs.Rebuilding.{handle_of, bindings_made, object_in, objects_named, IsNumbered}

-- one handle more, of the object with this number
abbrev pub with_handle : Bindings → ℕ → Bindings
with_handle binds object = record binds { pairs = binds.pairs ++ (handle_of object, object) ∷ [] }

-- the tree behind a change whose call makes this object, if any, where it is legal
abbrev pub after_change : Profile → Bindings → Tree → ℕ → Change → Option Tree
after_change profile binds tree object change = under profile binds tree object change.call (Received change.reply)

abbrev pub tree_behind : Profile → ℕ → Bindings → Tree → Change → Option Tree
tree_behind profile first binds tree change = after_change profile binds tree (object_in first change) change

-- ---- one change

-- it is made: its object got its handle, and the step was taken
pub record IsMade (profile : Profile) (first : ℕ) (change : Change) (binds : Bindings) (tree : Tree) (binds_after : Bindings) (after : Tree) : Type 0 where
  pub numbered : IsNumbered first change
  pub names : binds_after ≡ with_handle binds (object_in first change)
  pub leads : tree_behind profile first binds_after tree change ≡ Some after

-- it can't be: its step isn't legal, or its object has no number
abbrev pub CannotBeMade : Profile → ℕ → Change → Bindings → Tree → Type 0
CannotBeMade profile first change binds tree = IsNumbered first change → tree_behind profile first (with_handle binds (object_in first change)) tree change ≡ None

abbrev pub StepStops : ℕ → Option Tree → RebuildFault → Type 0
StepStops number after (NoRecord n) = ⊥
StepStops number after (NotLegal n) = (n ≡ number) × (after ≡ None)
StepStops number after NoMemory = Unit {0}

abbrev pub MakeStops : Profile → ℕ → ℕ → Change → Bindings → Tree → RebuildFault → Type 0
MakeStops profile first number change binds tree (NoRecord n) = ⊥
MakeStops profile first number change binds tree (NotLegal n) = (n ≡ number) × CannotBeMade profile first change binds tree
MakeStops profile first number change binds tree NoMemory = Unit {0}

-- ---- one record

-- its change is made
pub record IsTaken (profile : Profile) (first : ℕ) (bytes : List ℕ) (binds : Bindings) (tree : Tree) (binds_after : Bindings) (after : Tree) : Type 0 where
  pub change : Change
  pub only : IsOnly (IsJournalRecord bytes) change
  pub made : IsMade profile first change binds tree binds_after after

-- its change can't be
pub record IsStuck (profile : Profile) (first : ℕ) (bytes : List ℕ) (binds : Bindings) (tree : Tree) : Type 0 where
  pub change : Change
  pub only : IsOnly (IsJournalRecord bytes) change
  pub stops : CannotBeMade profile first change binds tree

abbrev pub IsUnread : ℕ → List ℕ → RebuildFault → Type 0
IsUnread number bytes (NoRecord n) = (n ≡ number) × MeansNothing (IsJournalRecord bytes)
IsUnread number bytes (NotLegal n) = ⊥
IsUnread number bytes NoMemory = Unit {0}

abbrev pub StopsAt : Profile → ℕ → ℕ → List ℕ → Bindings → Tree → RebuildFault → Type 0
StopsAt profile first number bytes binds tree (NoRecord n) = (n ≡ number) × MeansNothing (IsJournalRecord bytes)
StopsAt profile first number bytes binds tree (NotLegal n) = (n ≡ number) × IsStuck profile first bytes binds tree
StopsAt profile first number bytes binds tree NoMemory = Unit {0}

-- ---- all records

-- each reads as this change alone
abbrev pub AreOnly : List (List ℕ) → List Change → Type 0
AreOnly [] [] = Unit {0}
AreOnly (bytes ∷ records) (change ∷ changes) = IsOnly (IsJournalRecord bytes) change × AreOnly records changes
AreOnly records changes = ⊥

-- the tree behind changes, of which each knows the handles of the objects up to its own
abbrev pub grown : Profile → ℕ → List ℕ → Tree → List Change → Option Tree
grown profile first before tree [] = Some tree
grown profile first before tree (change ∷ changes) =
    option_and_then (λ after. grown profile first (before ++ object_in first change ∷ []) after changes)
    (tree_behind profile first (bindings_made (before ++ object_in first change ∷ [])) tree change)

-- the records lead to these handles and this tree
pub record Stands (profile : Profile) (start : List StartObject) (records : List (List ℕ)) (binds : Bindings) (tree : Tree) : Type 0 where
  pub changes : List Change
  pub are : AreOnly records changes
  pub numbered : AllByRecursion (IsNumbered (length start)) changes
  pub names : binds ≡ bindings_made (objects_named (length start) changes)
  pub start_is : IsStart start
  pub leads : grown profile (length start) (range_with_len 1 (length start)) (start_tree start) changes ≡ Some tree

abbrev pub Leads : Profile → List StartObject → List (List ℕ) → Tree → Type 0
Leads profile start records tree = (binds : Bindings) × Stands profile start records binds tree

-- those ahead of this one are taken, and it isn't
pub record IsStop (profile : Profile) (start : List StartObject) (records : List (List ℕ)) (number : ℕ) (Why : List ℕ → Bindings → Tree → Type 0) : Type 0 where
  pub ahead : List (List ℕ)
  pub bad : List ℕ
  pub behind : List (List ℕ)
  pub parts : records ≡ ahead ++ bad ∷ behind
  pub place : number ≡ length ahead + 1
  pub binds : Bindings
  pub tree : Tree
  pub stands : Stands profile start ahead binds tree
  pub why : Why bad binds tree

abbrev pub StopsIn : Profile → List StartObject → List (List ℕ) → RebuildFault → Type 0
StopsIn profile start records (NoRecord number) = IsStop profile start records number (λ bad binds tree. MeansNothing (IsJournalRecord bad))
StopsIn profile start records (NotLegal number) = IsStop profile start records number (IsStuck profile (length start))
StopsIn profile start records NoMemory = Unit {0}
