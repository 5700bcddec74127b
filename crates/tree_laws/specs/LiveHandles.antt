-- For the prover, and for callers.
-- how long a file handle is live: RFC 1813, `nfs_fh3` and NFS3ERR_STALE
use Rattle.std.specs.Prelude.{◌≡◌, ◌≢◌, ℕ, List, Option, Some, None}
use Rattle.nfs3_types.specs.declared.calls.NfsCall.{NfsCall}
use Rattle.nfs3_types.specs.declared.calls.NfsCall.TheVariants as calls
use Rattle.nfs3_types.specs.declared.replies.Outcome.{Outcome}
use Rattle.tree_nodes.specs.declared.node.Node.{Node}
use Rattle.tree_nodes.specs.Tree.{Names, Tree}
use Rattle.tree_handles.specs.Binding.{Bindings}
use Rattle.tree_handles.specs.Live.{live_entry}
use Rattle.file_tree.specs.Success.{next_tree}
use Rattle.tree_laws.specs.OnePath.{path_of}
use Rattle.tree_laws.specs.WellFormed.{IsWellFormed}

-- the path whose object a call may take away: of the name of a REMOVE or an RMDIR, and of the target of a RENAME
abbrev pub path_taken : Bindings → Tree → NfsCall → Option Names
path_taken binds tree (calls.Remove place) = path_of binds tree place
path_taken binds tree (calls.RmDir place) = path_of binds tree place
path_taken binds tree (calls.Rename call) = path_of binds tree call.to
path_taken binds tree _ = None

-- a live handle stays live and names the same object, unless that object may be taken away
abbrev pub HandlesLast : Type 0
HandlesLast =
    (binds : Bindings) (before after : Tree) (number : ℕ) (call : NfsCall) (outcome : Outcome) (handle : List ℕ) (e : Names × Node) → IsWellFormed before
    → next_tree binds before number call outcome ≡ Some after → live_entry binds before handle ≡ Some e → path_taken binds before call ≢ Some e.0
    → (now : Names × Node) × (live_entry binds after handle ≡ Some now) × (now.1.object ≡ e.1.object)
