-- Believed.
-- steps under a profile, and the steps of calls that are numbered behind a start (this project's own)
use Rattle.std.specs.Prelude.{◌≡◌, ℕ, true, None, IsSome, Option, option_and_then}
use Rattle.nfs3_types.specs.declared.calls.NfsCall.{NfsCall}
use Rattle.nfs3_types.specs.declared.replies.NfsReply.{NfsReply}
use Rattle.nfs3_types.specs.declared.replies.Outcome.{Outcome}
use Rattle.nfs3_types.specs.declared.replies.Outcome.TheVariants.{Received}
use Rattle.nfs3_types.specs.Procedures.{is_answered, failure_in}
use Rattle.tree_starts.specs.Start.{object_made}
use Rattle.tree_starts.specs.declared.profile.Profile.{Profile}
use Rattle.tree_starts.specs.declared.profile.Profile.TheVariants.{Plain, Strict}
use Rattle.tree_nodes.specs.Tree.{Tree}
use Rattle.tree_answers.specs.tree_handles_specs.Binding.{Bindings}
use Rattle.file_tree.specs.Strict.{judged}
use Rattle.file_tree.specs.Success.{next_tree}

-- the tree after a call that makes the object of this number, if any: under the strict profile only where the reply's attributes are
-- those of the trees
abbrev pub under : Profile → Bindings → Tree → ℕ → NfsCall → Outcome → Option Tree
under Plain binds = next_tree binds
under Strict binds = λ tree number call outcome. option_and_then (judged binds tree call outcome) (next_tree binds tree number call outcome)

-- the tree after call n, where so many objects stood at first
abbrev pub next_in : Profile → ℕ → Bindings → Tree → ℕ → NfsCall → Outcome → Option Tree
next_in profile first binds tree n call outcome = under profile binds tree (object_made first n) call outcome

-- ---- for the prover, and for callers

-- some success of the call's procedure leads to a tree under this profile
pub record AllowsUnder (profile : Profile) (binds : Bindings) (tree : Tree) (number : ℕ) (call : NfsCall) : Type 0 where
  pub reply : NfsReply
  pub answers : is_answered call reply ≡ true
  pub succeeds : failure_in reply ≡ None
  pub leads : IsSome (under profile binds tree number call (Received reply))
