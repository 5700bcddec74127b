-- Believed.
-- what leaves a tree as it is: RFC 1813, section 3.3
use Rattle.std.specs.Prelude.{◌≡◌, ℕ, Bool, true, false, Some}
use Rattle.nfs3_types.specs.declared.calls.NfsCall.{NfsCall}
use Rattle.nfs3_types.specs.declared.calls.NfsCall.TheVariants as calls
use Rattle.nfs3_types.specs.declared.replies.NfsReply.{NfsReply}
use Rattle.nfs3_types.specs.declared.replies.Outcome.{Outcome}
use Rattle.nfs3_types.specs.declared.replies.Outcome.TheVariants.{Received}
use Rattle.nfs3_types.specs.declared.status.Failure.{Failure}
use Rattle.tree_nodes.specs.Tree.{Tree}
use Rattle.tree_handles.specs.Binding.{Bindings}
use Rattle.nfs3_types.specs.Procedures.{failure_in}
use Rattle.file_tree.specs.Success.{next_tree}

-- a call that fails leaves the tree
abbrev pub FailureLeaves : Type 0
FailureLeaves =
    (binds : Bindings) (before after : Tree) (number : ℕ) (call : NfsCall) (reply : NfsReply) (failure : Failure) → failure_in reply ≡ Some failure
    → next_tree binds before number call (Received reply) ≡ Some after → after ≡ before

-- the procedures that only look: RFC 1813, sections 3.3.1, 3.3.3, 3.3.5, 3.3.6, 3.3.16, 3.3.17 and 3.3.21
abbrev pub only_looks : NfsCall → Bool
only_looks (calls.GetAttr _) = true
only_looks (calls.Lookup _) = true
only_looks (calls.ReadLink _) = true
only_looks (calls.Read _) = true
only_looks (calls.ReadDir _) = true
only_looks (calls.ReadDirPlus _) = true
only_looks (calls.Commit _) = true
only_looks _ = false

-- a call that only looks leaves the tree, whatever is answered
abbrev pub LookingLeaves : Type 0
LookingLeaves =
    (binds : Bindings) (before after : Tree) (number : ℕ) (call : NfsCall) (outcome : Outcome) → only_looks call ≡ true
    → next_tree binds before number call outcome ≡ Some after → after ≡ before
