-- For the prover, and for callers.
-- What handles a call depends on: RFC 1813, section 2.5 (`nfs_fh3`: a client knows nothing of a handle but what it was given it for)
use Rattle.std.specs.Prelude.{◌≡◌, ◌⊎◌, ℕ, List, IsSome}
use Rattle.nfs3_types.specs.declared.calls.NfsCall.{NfsCall}
use Rattle.nfs3_types.specs.declared.replies.Outcome.{Outcome}
use Rattle.tree_nodes.specs.Tree.{Tree, entry_of}
use Rattle.tree_handles.specs.Binding.{Bindings, is_bound}
use Rattle.file_tree.specs.Success.{next_tree}

-- the same handles name each object that stands in the tree, and the one that a call of this number would make
abbrev pub AgreeOn : Bindings → Bindings → Tree → ℕ → Type 0
AgreeOn binds other tree number =
    (handle : List ℕ) (object : ℕ) → IsSome (entry_of tree object) ⊎ (object ≡ number) → is_bound binds handle object ≡ is_bound other handle object

-- what other objects handles name makes no difference to a call
abbrev pub OthersDontMatter : Type 0
OthersDontMatter =
    (binds other : Bindings) (tree : Tree) (number : ℕ) (call : NfsCall) (outcome : Outcome) → AgreeOn binds other tree number
    → next_tree binds tree number call outcome ≡ next_tree other tree number call outcome
