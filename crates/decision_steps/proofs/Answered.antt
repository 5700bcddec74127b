-- what placing a call answers covers the plans that agree
use Rattle.std.proofs.Common.{◌≡◌, ℕ, Option, Some, None, Result, Err, refl, sym, ap, ◌∙◌, subst}
use Rattle.std.specs.Prelude.{true}
use Rattle.nfs3_types.specs.declared.calls.NfsCall.{NfsCall}
use Rattle.nfs3_types.specs.declared.replies.Outcome.{Outcome}
use Rattle.tree_starts.specs.declared.profile.Profile.{Profile}
use Rattle.tree_nodes.specs.Tree.{Tree}
use Rattle.tree_handles.specs.Binding.{Bindings}
use Rattle.file_tree.specs.Setting.{under}
use Rattle.decision_steps.specs.declared.fault.PlaceFault.{PlaceFault}
use Rattle.decision_steps.specs.declared.fault.PlaceFault.TheVariants.{NotLegal, HandleNotGiven, NoMemory}
use Rattle.decision_steps.specs.Standing.{Standing}
use Rattle.decision_steps.specs.Known.{AgreesWith, knows_handles, is_failure}
use Rattle.decision_steps.specs.Given.{given}
use Rattle.decision_steps.specs.Bound.{with_handles}
use Rattle.decision_steps.specs.Placing.{placed_in, Covers}
use Rattle.decision_steps.proofs.Covering.{Follows, follows}
use Rattle.decision_steps.proofs.Placed.{after_is}
use Rattle.decision_steps.proofs.Unknown.{under_keeps, failure_given}

module _ (profile : Profile) (known plan : Bindings) (tree after : Tree) (number : ℕ) (call : NfsCall) (outcome : Outcome) (agrees : AgreesWith known plan)
    (knows : knows_handles known call ≡ true) (leads : under profile plan tree number call outcome ≡ Some after) where
  plan_follows : Follows profile known plan tree after number call outcome
  plan_follows = follows profile known plan tree after number call outcome agrees knows leads

  differ : {X : Type 0} (o : Option X) (x : X) → o ≡ Some x → o ≡ None → ⊥
  differ o x some none = cc

  same_some : {X : Type 0} (o : Option X) (x y : X) → o ≡ Some x → o ≡ Some y → x ≡ y
  same_some o x y is other = cc

  -- where the reply's handles can't be bound there is no such plan
  pub are_taken : with_handles known (given known tree number call outcome) ≡ None → ⊥
  are_taken none = differ (with_handles known (given known tree number call outcome)) plan_follows.more plan_follows.is none

  -- where they are bound, the tree's step is the plan's
  module _ (more : Bindings) (bound : with_handles known (given known tree number call outcome) ≡ Some more) where
    same : plan_follows.more ≡ more
    same = same_some (with_handles known (given known tree number call outcome)) plan_follows.more more plan_follows.is bound

    here : under profile more tree number call outcome ≡ Some after
    here = subst (λ (b : Bindings). under profile b tree number call outcome ≡ Some after) same plan_follows.leads

    pub is_stepped : under profile more tree number call outcome ≡ None → ⊥
    is_stepped none = differ (under profile more tree number call outcome) after here none

    pub stepped_covers : (next : Tree) → under profile more tree number call outcome ≡ Some next → (next ≡ after) × AgreesWith more plan
    stepped_covers next is = (same_some (under profile more tree number call outcome) next after is here, subst (λ (b : Bindings). AgreesWith b plan) same plan_follows.agrees)

-- an error that isn't one of these two says nothing
pub fault_covers : (result : Result Standing PlaceFault) (before : Standing) (call : NfsCall) (plan : Bindings) (after : Tree) (fault : PlaceFault) → result ≡ Err fault → (fault ≡ NotLegal → ⊥) → (fault ≡ HandleNotGiven → ⊥)
    → Covers result before call plan after
fault_covers result before call plan after fault is refused decided = subst (λ r. Covers r before call plan after) (sym is) (go fault refused decided) where
  go : (fault : PlaceFault) → (fault ≡ NotLegal → ⊥) → (fault ≡ HandleNotGiven → ⊥) → Covers (Err fault) before call plan after
  go NotLegal refused decided = refused refl
  go HandleNotGiven refused decided = absurd (decided refl)
  go NoMemory refused decided = tt

-- ---- calls of handles that aren't bound

module _ (profile : Profile) (known plan : Bindings) (tree after : Tree) (number : ℕ) (call : NfsCall) (outcome : Outcome) (agrees : AgreesWith known plan)
    (leads : under profile plan tree number call outcome ≡ Some after) (fails : is_failure outcome ≡ true) where
  -- a failure that is permitted without them leaves the tree, as it does by the plan
  pub kept_covers : (state : Standing) → state.binds ≡ known → under profile known tree number call outcome ≡ Some state.tree → (state.tree ≡ after) × AgreesWith state.binds plan
  kept_covers state binds stepped = (
    sym (under_keeps profile known tree state.tree number call outcome fails stepped) ∙ under_keeps profile plan tree after number call outcome fails leads,
    subst (λ (b : Bindings). AgreesWith b plan) (sym binds) agrees,
  )

-- so it is what placing comes to
pub kept_placed : (profile : Profile) (state next : Standing) (number : ℕ) (call : NfsCall) (outcome : Outcome) → is_failure outcome ≡ true → next.binds ≡ state.binds
    → under profile state.binds state.tree number call outcome ≡ Some next.tree → next.origin ≡ state.origin → placed_in profile state number call outcome ≡ Some next
kept_placed profile state next number call outcome fails binds stepped origin =
    after_is profile state next number call outcome (ap (with_handles state.binds) (failure_given state.binds state.tree number call outcome fails) ∙ ap Some (sym binds))
    (ap (λ (b : Bindings). under profile b state.tree number call outcome) binds ∙ stepped) origin
