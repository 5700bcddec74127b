-- For the prover, and for callers.
-- which objects a call brings into the tree: RFC 1813, sections 3.3.8 to 3.3.10
use Rattle.std.specs.Prelude.{◌≡◌, ◌⊎◌, ℕ, Some, IsSome}
use Rattle.nfs3_types.specs.declared.calls.NfsCall.{NfsCall}
use Rattle.nfs3_types.specs.declared.replies.Outcome.{Outcome}
use Rattle.tree_nodes.specs.Tree.{Tree, entry_of}
use Rattle.tree_handles.specs.Binding.{Bindings}
use Rattle.file_tree.specs.Success.{next_tree}

-- an object that stands behind a call stood ahead of it, or has the call's number
abbrev pub OnlyItsOwnIsNew : Type 0
OnlyItsOwnIsNew =
    (binds : Bindings) (before after : Tree) (number : ℕ) (call : NfsCall) (outcome : Outcome) (object : ℕ) → next_tree binds before number call outcome ≡ Some after
    → IsSome (entry_of after object) → IsSome (entry_of before object) ⊎ (object ≡ number)
