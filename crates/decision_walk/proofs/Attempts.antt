-- a call that is tried covers each plan that goes on by it
use Rattle.std.proofs.Common.{◌≡◌, ℕ, length, Some, None, sym, ap, ◌∙◌, subst}
use Rattle.nfs3_types.specs.declared.calls.NfsCall.{NfsCall}
use Rattle.nfs3_types.specs.declared.replies.Outcome.{Outcome}
use Rattle.nfs_history.specs.declared.knowing.KnownCalls.{KnownCalls}
use Rattle.certificate.specs.declared.plan.Certificate.{Certificate}
use Rattle.tree_starts.specs.declared.profile.Profile.{Profile}
use Rattle.tree_starts.specs.Start.{object_made}
use Rattle.tree_nodes.specs.Tree.{Tree}
use Rattle.tree_handles.specs.Binding.{Bindings}
use Rattle.file_tree.specs.Setting.{under}
use Rattle.decision_steps.specs.Known.{AgreesWith}
use Rattle.decision_steps.specs.Standing.{Standing}
use Rattle.decision_law.specs.Laws.{binds_of}
use Rattle.decision_walk.specs.View.{WalkView}
use Rattle.decision_walk.specs.Placings.{GoesOn, CoversPlans}

module _ (known : KnownCalls) (state : WalkView) (stands : Standing) (tree : state.tree ≡ stands.tree) (binds : state.binds ≡ stands.binds) (n object : ℕ)
    (made : object ≡ object_made (length known.head.start) n) (profile : Profile) (profile_is : profile ≡ known.head.profile) (call : NfsCall) (outcome : Outcome) where
  -- what a plan's run does goes on from what stands
  goes : (plan : Certificate) (after : Tree) → GoesOn known plan state.tree n call outcome after → under profile (binds_of known plan) stands.tree object call outcome ≡ Some after
  goes plan after leads =
      ap (λ p. under p (binds_of known plan) stands.tree object call outcome) profile_is
      ∙ ap (λ t. under known.head.profile (binds_of known plan) t object call outcome) (sym tree)
      ∙ ap (λ o. under known.head.profile (binds_of known plan) state.tree o call outcome) made ∙ leads

  agrees_too : (plan : Certificate) → AgreesWith state.binds (binds_of known plan) → AgreesWith stands.binds (binds_of known plan)
  agrees_too plan agrees = subst (λ b. AgreesWith b (binds_of known plan)) binds agrees

  pub placed_covers : (next : Standing) → ((plan : Bindings) (after : Tree) → AgreesWith stands.binds plan → under profile plan stands.tree object call outcome ≡ Some after → (next.tree ≡ after) × AgreesWith next.binds plan)
      → CoversPlans known state n call outcome (Some next)
  placed_covers next covers plan after agrees leads = covers (binds_of known plan) after (agrees_too plan agrees) (goes plan after leads)

  pub refused_covers : ((plan : Bindings) (after : Tree) → AgreesWith stands.binds plan → under profile plan stands.tree object call outcome ≡ Some after → ⊥) → CoversPlans known state n call outcome None
  refused_covers covers plan after agrees leads = covers (binds_of known plan) after (agrees_too plan agrees) (goes plan after leads)
