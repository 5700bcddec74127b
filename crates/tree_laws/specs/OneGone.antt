-- For the prover, and for callers.
-- what REMOVE and RMDIR take away: RFC 1813, sections 3.3.12 and 3.3.13
use Rattle.std.specs.Prelude.{◌≡◌, ◌≢◌, ℕ, ◌+◌, Bool, true, not, List, ◌∷◌, ◌++◌, Some, None}
use Rattle.std.specs.FinMap as map
use Rattle.nfs3_types.specs.declared.calls.DirectoryName.{DirectoryName}
use Rattle.nfs3_types.specs.declared.calls.NfsCall.TheVariants as calls
use Rattle.nfs3_types.specs.declared.replies.Outcome.{Outcome}
use Rattle.tree_nodes.specs.declared.node.Node.{Node}
use Rattle.tree_nodes.specs.declared.node.Content.{Content}
use Rattle.tree_nodes.specs.Tree.{Names, Tree}
use Rattle.tree_handles.specs.Binding.{Bindings}
use Rattle.tree_handles.specs.Entry.{named}
use Rattle.tree_handles.specs.Kind.{is_directory}
use Rattle.file_tree.specs.Success.{next_tree}
use Rattle.tree_laws.specs.Outcomes.{IsSuccess}

-- the node that the place names is of this kind and is gone, nothing stood below it, and every other path has the node
-- that it had
pub record TakesOneAway (binds : Bindings) (place : DirectoryName) (kind : Content → Bool) (before after : Tree) : Type 0 where
  pub path : Names
  pub node : Node
  pub was_named : named binds before place ≡ Some (path, node)
  pub stood : map.get before path ≡ Some node
  pub was_kind : kind node.content ≡ true
  pub gone : map.get after path ≡ None
  pub alone : (name : List ℕ) (below : Names) → map.get before (path ++ name ∷ below) ≡ None
  pub others : (other : Names) → other ≢ path → map.get after other ≡ map.get before other
  pub fewer : map.len after + 1 ≡ map.len before

abbrev pub is_no_directory : Content → Bool
is_no_directory content = not (is_directory content)

-- a REMOVE that succeeds takes one node away, of no directory
abbrev pub RemoveTakesOne : Type 0
RemoveTakesOne =
    (binds : Bindings) (before after : Tree) (number : ℕ) (place : DirectoryName) (outcome : Outcome) → IsSuccess outcome
    → next_tree binds before number (calls.Remove place) outcome ≡ Some after → TakesOneAway binds place is_no_directory before after

-- an RMDIR that succeeds takes one node away, of a directory
abbrev pub RmDirTakesOne : Type 0
RmDirTakesOne =
    (binds : Bindings) (before after : Tree) (number : ℕ) (place : DirectoryName) (outcome : Outcome) → IsSuccess outcome
    → next_tree binds before number (calls.RmDir place) outcome ≡ Some after → TakesOneAway binds place is_directory before after
