-- For the prover, and for callers.
-- what a file tree is: RFC 1813, section 2.6 (`ftype3`) and section 3.3.3
use Rattle.std.specs.Prelude.{◌≡◌, ℕ, List, [], ◌∷◌, ◌++◌, length, Bool, true, not, ◌&&◌, if◌then◌else◌, Option, Some, None, IsSome, option_and_then}
use Rattle.std.specs.FinMap as map
use Rattle.nfs3_types.specs.declared.calls.DirectoryName.{DirectoryName}
use Rattle.nfs3_types.specs.declared.calls.NfsCall.{NfsCall}
use Rattle.nfs3_types.specs.declared.replies.Outcome.{Outcome}
use Rattle.replay_law.specs.Run.{TakenStep, state_after}
use Rattle.tree_starts.specs.Start.{IsStart}
use Rattle.tree_starts.specs.declared.object.StartObject.{StartObject}
use Rattle.tree_starts.specs.declared.profile.Profile.{Profile}
use Rattle.tree_nodes.specs.declared.node.Node.{Node}
use Rattle.tree_nodes.specs.declared.node.Content.{Content}
use Rattle.tree_nodes.specs.declared.node.Content.TheVariants.{Directory}
use Rattle.tree_nodes.specs.Tree.{Names, Tree, same_path, is_bare}
use Rattle.tree_nodes.specs.Moved.{is_from}
use Rattle.file_tree.specs.Change.Change.{Keep, Remove, Move}
use Rattle.tree_handles.specs.Binding.{Bindings}
use Rattle.tree_handles.specs.Entry.{named}
use Rattle.tree_handles.specs.Kind.{is_directory}
use Rattle.file_tree.specs.Setting.{next_in}
use Rattle.file_tree.specs.StartTree.{start_tree}
use Rattle.file_tree.specs.Success.{next_tree}
use Rattle.file_tree.specs.Made.{only_if}
use Rattle.file_tree.specs.Removed.{remove_entry, rename_at}
use Rattle.tree_laws.specs.OneGone.{is_no_directory}

-- a directory stands at this path
pub record IsDirectoryAt (tree : Tree) (path : Names) : Type 0 where
  pub object : ℕ
  pub stands : map.get tree path ≡ Some (record { object = object; content = Directory })

-- the root is directory 0, each entry lies in a directory, and each object stands at one path
pub record IsWellFormed (tree : Tree) : Type 0 where
  pub root : map.get tree [] ≡ Some (record { object = 0; content = Directory })
  pub parents : (path : Names) (name : List ℕ) → IsSome (map.get tree (path ++ name ∷ [])) → IsDirectoryAt tree path
  pub objects : (p q : Names) (x y : Node) → map.get tree p ≡ Some x → map.get tree q ≡ Some y → x.object ≡ y.object → p ≡ q

-- a call leaves a well-formed tree well formed, however it came out
abbrev pub StepsKeep : Type 0
StepsKeep =
    (binds : Bindings) (before after : Tree) (number : ℕ) (call : NfsCall) (outcome : Outcome) → next_tree binds before number call outcome ≡ Some after
    → IsWellFormed before → IsWellFormed after

-- whatever stood at first, and under each profile, each tree that calls reach is well formed
abbrev pub RunsKeep : Type 0
RunsKeep =
    (profile : Profile) (start : List StartObject) (binds : Bindings) (steps : List (TakenStep NfsCall Outcome)) (tree : Tree) → IsStart start
    → state_after (next_in profile (length start) binds) (start_tree start) steps ≡ Some tree → IsWellFormed tree

-- in a well-formed tree nothing stands below a path at which no directory stands
abbrev pub NothingBelow : Type 0
NothingBelow =
    (tree : Tree) (path : Names) → IsWellFormed tree → (IsDirectoryAt tree path → ⊥) → (name : List ℕ) (below : Names) → map.get tree (path ++ name ∷ below) ≡ None

-- so that such a path is bare
abbrev pub NoDirectoryIsBare : Type 0
NoDirectoryIsBare = (tree : Tree) (path : Names) → IsWellFormed tree → (IsDirectoryAt tree path → ⊥) → is_bare tree path ≡ true

-- and a REMOVE asks of the entry that it names only that it is no directory: RFC 1813, section 3.3.12
abbrev pub RemoveAsksOnly : Type 0
RemoveAsksOnly =
    (binds : Bindings) (tree : Tree) (place : DirectoryName) → IsWellFormed tree
    → remove_entry binds tree place ≡ option_and_then (λ e. only_if (is_no_directory e.1.content) (Remove e.0)) (named binds tree place)

-- what may take the place of what stands at a path: a directory that of an empty directory, anything else that of what is
-- no directory, RFC 1813, section 3.3.14
abbrev pub may_take_place : Tree → Names → Content → Option Node → Bool
may_take_place tree path content None = true
may_take_place tree path content (Some node) = if is_directory node.content then is_directory content && is_bare tree path else is_no_directory content

-- and a RENAME onto another path asks only that, and that the path isn't from the source on
abbrev pub RenameAsksOnly : Type 0
RenameAsksOnly =
    (tree : Tree) (source target : Names) (content : Content) → IsWellFormed tree
    → rename_at tree source content target
    ≡ (if same_path source target then Some Keep else only_if (not (is_from target source) && may_take_place tree target content (map.get tree target)) (Move source target))
