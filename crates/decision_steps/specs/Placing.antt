-- Believed.
-- what placing a call in a state comes to
use Rattle.std.specs.Prelude.{◌≡◌, ℕ, true, Option, Some, Result, Ok, Err, option_and_then, option_map}
use Rattle.nfs3_types.specs.declared.calls.NfsCall.{NfsCall}
use Rattle.nfs3_types.specs.declared.replies.Outcome.{Outcome}
use Rattle.tree_starts.specs.declared.profile.Profile.{Profile}
use Rattle.tree_nodes.specs.Tree.{Tree}
use Rattle.tree_handles.specs.Binding.{Bindings}
use Rattle.file_tree.specs.Setting.{under}
use Rattle.decision_steps.specs.declared.fault.PlaceFault.{PlaceFault}
use Rattle.decision_steps.specs.declared.fault.PlaceFault.TheVariants.{NotLegal, HandleNotGiven, NoMemory}
use Rattle.decision_steps.specs.Standing.{Standing}
use Rattle.decision_steps.specs.Bound.{with_handles}
use Rattle.decision_steps.specs.Given.{given}
use Rattle.decision_steps.specs.Known.{AgreesWith, NamesMore, knows_handles}

-- the state after a call, by the handles that are bound and those that the reply gives, where there is one
abbrev pub placed_in : Profile → Standing → ℕ → NfsCall → Outcome → Option Standing
placed_in profile state number call outcome =
    option_and_then (λ binds. option_map (λ tree. record { tree = tree; binds = binds; origin = state.origin }) (under profile binds state.tree number call outcome))
    (with_handles state.binds (given state.binds state.tree number call outcome))

-- the answer covers a plan's binding of all handles, by which the call leads from the state's tree to this one: the state after the call
-- has that tree and handles that are bound alike, or the plan has a handle name something that isn't bound yet
abbrev pub Covers : Result Standing PlaceFault → Standing → NfsCall → Bindings → Tree → Type 0
Covers (Ok next) before call plan after = (next.tree ≡ after) × AgreesWith next.binds plan
Covers (Err NotLegal) before call plan after = ⊥
Covers (Err HandleNotGiven) before call plan after = NamesMore before.binds plan before.tree call
Covers (Err NoMemory) before call plan after = Unit {0}

-- where the handles of a call are bound, each plan that binds them alike, and by which the call leads to a tree, has a state after the
-- call with this tree, of handles that it binds alike
abbrev pub PlansAreCovered : Type 0
PlansAreCovered =
    (profile : Profile) (state : Standing) (plan : Bindings) (after : Tree) (number : ℕ) (call : NfsCall) (outcome : Outcome) → AgreesWith state.binds plan → knows_handles state.binds call ≡ true
    → under profile plan state.tree number call outcome ≡ Some after → (next : Standing) × (placed_in profile state number call outcome ≡ Some next) × (next.tree ≡ after) × AgreesWith next.binds plan

-- and by each plan that binds alike what the state after a call binds the call leads to its tree
abbrev pub StatesAreOfPlans : Type 0
StatesAreOfPlans =
    (profile : Profile) (state next : Standing) (plan : Bindings) (number : ℕ) (call : NfsCall) (outcome : Outcome) → knows_handles state.binds call ≡ true
    → placed_in profile state number call outcome ≡ Some next → AgreesWith next.binds plan → under profile plan state.tree number call outcome ≡ Some next.tree

-- what is bound stays bound
abbrev pub HandlesStayBound : Type 0
HandlesStayBound =
    (profile : Profile) (state next : Standing) (number : ℕ) (call : NfsCall) (outcome : Outcome) → placed_in profile state number call outcome ≡ Some next → AgreesWith state.binds next.binds
