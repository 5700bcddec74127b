-- For the prover.
-- the change of a call that the profile lets be: what the code says to the prover
use Rattle.std.specs.Prelude.{ℕ, Bool, true, Option, option_and_then, option_map}
use Rattle.nfs3_types.specs.declared.calls.NfsCall.{NfsCall}
use Rattle.nfs3_types.specs.declared.replies.Outcome.{Outcome}
use Rattle.nfs3_types.specs.declared.replies.Outcome.TheVariants.{Received, Taken}
use Rattle.tree_starts.specs.declared.profile.Profile.{Profile}
use Rattle.tree_starts.specs.declared.profile.Profile.TheVariants.{Plain, Strict}
use Rattle.tree_nodes.specs.Tree.{Tree}
use Rattle.tree_answers.specs.tree_handles_specs.Binding.{Bindings}
use Rattle.file_tree.specs.Change.{Change}
use Rattle.file_tree.specs.Strict.{agrees, judged}
use Rattle.file_tree.specs.Success.{changed, change_of}

-- whether the strict profile lets a tree be
abbrev pub lets : Bindings → Tree → NfsCall → Outcome → Tree → Bool
lets binds before call (Received reply) after = agrees binds before after call reply
lets binds before call (Taken count) after = true

-- the change, where the tree after it is let be
abbrev pub kept_if : Change → Option Tree → Option Change
kept_if change after = option_map (λ _. change) after

abbrev pub change_under : Profile → Bindings → Tree → ℕ → NfsCall → Outcome → Option Change
change_under Plain binds tree number call outcome = change_of binds tree number call outcome
change_under Strict binds tree number call outcome =
    option_and_then (λ change. kept_if change (judged binds tree call outcome (changed tree change))) (change_of binds tree number call outcome)
