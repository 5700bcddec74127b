-- For the prover, and for callers.
-- calls that got no reply and yet took effect: Herlihy and Wing 1990, section 2.2 (an operation without a response may be completed)
use Rattle.std.specs.Prelude.{◌≡◌, ℕ, false, Some, None}
use Rattle.nfs3_types.specs.declared.calls.NfsCall.{NfsCall}
use Rattle.nfs3_types.specs.declared.replies.NfsReply.{NfsReply}
use Rattle.nfs3_types.specs.declared.replies.Outcome.TheVariants.{Received, Taken}
use Rattle.nfs3_types.specs.Procedures.{failure_in}
use Rattle.tree_nodes.specs.Tree.{Tree}
use Rattle.tree_handles.specs.Binding.{Bindings}
use Rattle.file_tree.specs.Success.{next_tree}
use Rattle.tree_laws.specs.Leaving.{only_looks}
use Rattle.tree_laws.specs.Outcomes.{count_written}

-- what a success makes of the tree the call makes of it without its reply
abbrev pub TakenAsReceived : Type 0
TakenAsReceived =
    (binds : Bindings) (before after : Tree) (number : ℕ) (call : NfsCall) (reply : NfsReply) → only_looks call ≡ false → failure_in reply ≡ None
    → next_tree binds before number call (Received reply) ≡ Some after → next_tree binds before number call (Taken (count_written (Received reply))) ≡ Some after
