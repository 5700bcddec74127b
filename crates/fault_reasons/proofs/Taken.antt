-- Steps of the tree as steps of a run.
use Rattle.std.proofs.Common.{◌≡◌, ℕ, Option, Some, refl, ap, sym, ◌∙◌, subst}
use Rattle.std.specs.Prelude.{IsSome}
use Rattle.nfs3_types.specs.declared.calls.NfsCall.{NfsCall}
use Rattle.nfs3_types.specs.declared.replies.NfsReply.{NfsReply}
use Rattle.nfs3_types.specs.declared.replies.Outcome.{Outcome}
use Rattle.nfs3_types.specs.declared.replies.Outcome.TheVariants.{Received}
use Rattle.tree_starts.specs.Start.{object_made}
use Rattle.tree_starts.specs.declared.profile.Profile.{Profile}
use Rattle.tree_nodes.specs.Tree.{Tree}
use Rattle.tree_handles.specs.Binding.{Bindings}
use Rattle.file_tree.specs.Setting.{under, next_in}

-- the step of the object that a call makes is the step of the call
pub step_is : (profile other : Profile) (binds : Bindings) (tree : Tree) (object n first : ℕ) (call : NfsCall) (outcome : Outcome) (o : Option Tree) → profile ≡ other
    → object ≡ object_made first n → under profile binds tree object call outcome ≡ o → next_in other first binds tree n call outcome ≡ o
step_is profile other binds tree object n first call outcome o same is step =
    ap (λ (p : Profile). under p binds tree (object_made first n) call outcome) (sym same) ∙ ap (λ k. under profile binds tree k call outcome) (sym is) ∙ step

-- a reply that was taken
pub is_taken : (profile other : Profile) (binds : Bindings) (tree after : Tree) (object n first : ℕ) (call : NfsCall) (copy reply : NfsReply) → profile ≡ other
    → object ≡ object_made first n → copy ≡ reply → under profile binds tree object call (Received copy) ≡ Some after
    → IsSome (next_in other first binds tree n call (Received reply))
is_taken profile other binds tree after object n first call copy reply same is copied step =
    subst (λ (r : NfsReply). IsSome (next_in other first binds tree n call (Received r))) copied
    (subst IsSome (sym (step_is profile other binds tree object n first call (Received copy) (Some after) same is step)) refl)
