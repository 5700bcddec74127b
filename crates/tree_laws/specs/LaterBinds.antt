-- For the prover, and for callers.
-- handles that name objects which aren't there yet: RFC 1813, section 2.5, `nfs_fh3`
use Rattle.std.specs.Prelude.{◌≡◌, ◌⊎◌, ℕ, List, [], ◌∷◌, ◌++◌, Some, None, IsSome}
use Rattle.nfs3_types.specs.declared.calls.NfsCall.{NfsCall}
use Rattle.nfs3_types.specs.declared.replies.Outcome.{Outcome}
use Rattle.tree_nodes.specs.Tree.{Tree, entry_of}
use Rattle.tree_handles.specs.Binding.{Bindings}
use Rattle.file_tree.specs.Success.{next_tree}

-- one handle more, which names this object unless it has named one before
abbrev pub bound_too : Bindings → List ℕ → ℕ → Bindings
bound_too binds handle object = record binds { pairs = binds.pairs ++ (handle, object) ∷ [] }

-- where the tree doesn't hold the object, each call comes out as without the handle, or the object is there after it
abbrev pub HandleWaits : Type 0
HandleWaits =
    (binds : Bindings) (handle : List ℕ) (object : ℕ) (tree : Tree) (number : ℕ) (call : NfsCall) (outcome : Outcome) → entry_of tree object ≡ None
    → (next_tree (bound_too binds handle object) tree number call outcome ≡ next_tree binds tree number call outcome)
    ⊎ ((after : Tree) × (next_tree (bound_too binds handle object) tree number call outcome ≡ Some after) × IsSome (entry_of after object))
