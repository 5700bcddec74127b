-- For the prover, and for callers.
-- what RENAME moves: RFC 1813, section 3.3.14
use Rattle.std.specs.Prelude.{◌≡◌, ◌≢◌, ℕ, ◌++◌, Some, None}
use Rattle.std.specs.FinMap as map
use Rattle.nfs3_types.specs.declared.calls.RenameArguments.{RenameArguments}
use Rattle.nfs3_types.specs.declared.calls.NfsCall.TheVariants as calls
use Rattle.nfs3_types.specs.declared.replies.Outcome.{Outcome}
use Rattle.tree_nodes.specs.declared.node.Node.{Node}
use Rattle.tree_nodes.specs.Tree.{Names, Tree}
use Rattle.tree_handles.specs.Binding.{Bindings}
use Rattle.tree_handles.specs.Entry.{named}
use Rattle.file_tree.specs.Success.{next_tree}
use Rattle.tree_laws.specs.Outcomes.{IsSuccess}
use Rattle.tree_laws.specs.OnePath.{path_of}

-- a path that isn't this one and doesn't lie below it
abbrev pub IsOutside : Names → Names → Type 0
IsOutside front path = (below : Names) → path ≢ front ++ below

-- what stood at the source stands at the target with all that lay below it, nothing stands at the source or below it any
-- more, and each path outside both has the node that it had
pub record HasMoved (source target : Names) (before after : Tree) : Type 0 where
  pub along : (below : Names) → map.get after (target ++ below) ≡ map.get before (source ++ below)
  pub gone : (below : Names) → map.get after (source ++ below) ≡ None
  pub others : (path : Names) → IsOutside source path → IsOutside target path → map.get after path ≡ map.get before path

-- the entry that the call names goes to the path that it names; onto itself it leaves the tree
pub record IsRenamed (binds : Bindings) (call : RenameArguments) (before after : Tree) : Type 0 where
  pub source : Names
  pub node : Node
  pub target : Names
  pub was_named : named binds before call.from ≡ Some (source, node)
  pub stood : map.get before source ≡ Some node
  pub goes_to : path_of binds before call.to ≡ Some target
  pub onto_itself : source ≡ target → after ≡ before
  pub elsewhere : source ≢ target → HasMoved source target before after

-- a RENAME that succeeds moves what it names
abbrev pub RenameMoves : Type 0
RenameMoves =
    (binds : Bindings) (before after : Tree) (number : ℕ) (call : RenameArguments) (outcome : Outcome) → IsSuccess outcome
    → next_tree binds before number (calls.Rename call) outcome ≡ Some after → IsRenamed binds call before after
