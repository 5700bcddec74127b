-- states and plans: placing a call loses no plan, and each plan of the state after it goes on by the call
use Rattle.std.proofs.Common.{◌≡◌, inl, inr, ℕ, Bool, true, false, cond, List, [], ◌∷◌, Option, Some, None, refl, sym, ap, ◌∙◌, subst}
use Rattle.std.proofs.lemmas.Bool.{eqb-true, eq-eqb, or_cases, true≢false}
use Rattle.std.specs.Option.{option_map_or}
use Rattle.std.specs.Prelude.{◌==◌, ◌&&◌, not, option_and_then, option_map}
use Rattle.std.specs.Map.{lookup}
use Rattle.std.specs.Cmp.Lexicographic.{bytes_decides}
use Rattle.nfs3_types.specs.declared.calls.NfsCall.{NfsCall}
use Rattle.nfs3_types.specs.declared.replies.Outcome.{Outcome}
use Rattle.tree_starts.specs.declared.profile.Profile.{Profile}
use Rattle.tree_nodes.specs.Tree.{Tree}
use Rattle.tree_nodes.proofs.Chains.{chained, mapped}
use Rattle.tree_handles.specs.Binding.{Bindings, same_bytes, object_of, is_bound}
use Rattle.file_tree.specs.Setting.{under}
use Rattle.decision_steps.specs.Standing.{Standing}
use Rattle.decision_steps.specs.Known.{AgreesWith}
use Rattle.decision_steps.specs.Given.{given}
use Rattle.decision_steps.specs.Bound.{bound_behind, bound_where, with_handle, with_handles, are_bound, names_other, has_other}
use Rattle.decision_steps.specs.Placing.{placed_in, PlansAreCovered, StatesAreOfPlans, HandlesStayBound}
use Rattle.decision_steps.proofs.Parts.{first_passes, second_passes}
use Rattle.decision_steps.proofs.Replies.{given_same}
use Rattle.decision_steps.proofs.Steps.{under_same}
use Rattle.decision_steps.proofs.Covering.{names_more, names_it, bound_is, all_alike, follows}
use Rattle.tree_handles.proofs.HandleOf.{object_is}

-- what binding a pair comes to
one_bound : (known more : Bindings) (pair : List ℕ × ℕ) → with_handle known pair ≡ Some more → AgreesWith known more × (object_of more pair.0 ≡ Some pair.1)
one_bound known more pair e = go (object_of known pair.0) refl e where
  same_some : {X : Type 0} (x y : X) → Some x ≡ Some y → x ≡ y
  same_some x y e = cc

  kept : (object : ℕ) (b : Bool) → object_of known pair.0 ≡ Some object → (object == pair.1) ≡ b → cond b (Some known) None ≡ Some more → AgreesWith known more × (object_of more pair.0 ≡ Some pair.1)
  kept object false is same e = absurd (cc)
  kept object true is same e =
      let stays = same_some known more e in
      (subst (AgreesWith known) stays (λ handle named there. there), ap (λ (b : Bindings). object_of b pair.0) (sym stays) ∙ is ∙ ap Some (eqb-true object pair.1 same))

  go : (o : Option ℕ) → object_of known pair.0 ≡ o → bound_where known pair o ≡ Some more → AgreesWith known more × (object_of more pair.0 ≡ Some pair.1)
  go None new e =
      let is = same_some (bound_behind known (pair ∷ [])) more e in
      (subst (AgreesWith known) is (names_more known pair.0 pair.1), ap (λ (b : Bindings). object_of b pair.0) (sym is) ∙ names_it known pair.0 pair.1 new)
  go (Some object) is e = kept object (object == pair.1) is refl e

pub all_bound : (known more : Bindings) (pairs : List (List ℕ × ℕ)) → with_handles known pairs ≡ Some more → AgreesWith known more × (are_bound more pairs ≡ true)
all_bound known more [] e = (subst (AgreesWith known) (same_some known more e) (λ handle named there. there), refl) where
  same_some : {X : Type 0} (x y : X) → Some x ≡ Some y → x ≡ y
  same_some x y e = cc
all_bound known more (pair ∷ pairs) e =
    let found = chained (λ (b : Bindings). with_handles b pairs) (with_handle known pair) more e in
    let one = one_bound known found.0 pair found.1 in
    let rest = all_bound found.0 more pairs found.2 in (
      (λ handle named there. rest.0 handle named (one.0 handle named there)),
      ap (λ b. b && are_bound more pairs) (object_is more pair.0 pair.1 (rest.0 pair.0 pair.1 one.1)) ∙ rest.1,
    )

-- where all are bound so already nothing changes
pub all_kept : (known : Bindings) (pairs : List (List ℕ × ℕ)) → are_bound known pairs ≡ true → with_handles known pairs ≡ Some known
all_kept known [] bound = refl
all_kept known (pair ∷ pairs) bound =
    let is = bound_is (object_of known pair.0) pair.1 (first_passes (is_bound known pair.0 pair.1) (are_bound known pairs) bound) in
    ap (option_and_then (λ more. with_handles more pairs)) (ap (bound_where known pair) is ∙ ap (λ (b : Bool). cond b (Some known) None) (eq-eqb pair.1 pair.1 refl))
    ∙ all_kept known pairs (second_passes (is_bound known pair.0 pair.1) (are_bound known pairs) bound)

-- a handle that names another object can't be bound so
other_isnt : (known more : Bindings) (pairs : List (List ℕ × ℕ)) → AgreesWith known more → are_bound more pairs ≡ true → has_other known pairs ≡ true → ⊥
other_isnt known more [] agrees bound other = true≢false (sym other)
other_isnt known more (pair ∷ pairs) agrees bound other = elim (or_cases (names_other known pair) (has_other known pairs) other) [
  | inl here ↦ go (object_of known pair.0) refl here
  | inr later ↦ other_isnt known more pairs agrees (second_passes (is_bound more pair.0 pair.1) (are_bound more pairs) bound) later
] where
  same_value : (a b : ℕ) → Some a ≡ Some b → a ≡ b
  same_value a b e = cc

  go : (o : Option ℕ) → object_of known pair.0 ≡ o → option_map_or (λ object. not (object == pair.1)) o false ≡ true → ⊥
  go None is here = true≢false (sym here)
  go (Some object) is here =
      let there = bound_is (object_of more pair.0) pair.1 (first_passes (is_bound more pair.0 pair.1) (are_bound more pairs) bound) in
      let same = same_value object pair.1 (sym (agrees pair.0 object is) ∙ there) in
      true≢false (sym here ∙ ap not (eq-eqb object pair.1 same))

pub other_refuses : (known : Bindings) (pairs : List (List ℕ × ℕ)) → has_other known pairs ≡ true → with_handles known pairs ≡ None
other_refuses known pairs other = go (with_handles known pairs) refl where
  go : (o : Option Bindings) → with_handles known pairs ≡ o → o ≡ None
  go None is = refl
  go (Some more) is = let bound = all_bound known more pairs is in absurd (other_isnt known more pairs bound.0 bound.1 other)

-- bindings that agree have all bound that these have
bound_too : (more plan : Bindings) (pairs : List (List ℕ × ℕ)) → AgreesWith more plan → are_bound more pairs ≡ true → are_bound plan pairs ≡ true
bound_too more plan [] agrees bound = refl
bound_too more plan (pair ∷ pairs) agrees bound =
    let here = first_passes (is_bound more pair.0 pair.1) (are_bound more pairs) bound in
    ap (λ b. b && are_bound plan pairs) (object_is plan pair.0 pair.1 (agrees pair.0 pair.1 (bound_is (object_of more pair.0) pair.1 here)))
    ∙ bound_too more plan pairs agrees (second_passes (is_bound more pair.0 pair.1) (are_bound more pairs) bound)

-- so has one whose pairs are among them
looked_up : (known : Bindings) (pairs : List (List ℕ × ℕ)) (handle : List ℕ) (object : ℕ) → are_bound known pairs ≡ true → lookup (same_bytes handle) pairs ≡ Some object
    → object_of known handle ≡ Some object
looked_up known [] handle object bound e = absurd (cc)
looked_up known (pair ∷ pairs) handle object bound e =
    go (same_bytes handle pair.0) refl e (looked_up known pairs handle object (second_passes (is_bound known pair.0 pair.1) (are_bound known pairs) bound)) where
      go : (b : Bool) → same_bytes handle pair.0 ≡ b → cond b (Some pair.1) (lookup (same_bytes handle) pairs) ≡ Some object → (lookup (same_bytes handle) pairs ≡ Some object → object_of known handle ≡ Some object)
          → object_of known handle ≡ Some object
      go true same e later =
          ap (object_of known) ((bytes_decides handle pair.0).0 same)
          ∙ bound_is (object_of known pair.0) pair.1 (first_passes (is_bound known pair.0 pair.1) (are_bound known pairs) bound) ∙ e
      go false same e later = later e

pub bound_agree : (other known : Bindings) (pairs : List (List ℕ × ℕ)) → are_bound known pairs ≡ true → other.root ≡ known.root → other.pairs ≡ pairs → AgreesWith other known
bound_agree other known pairs bound root is handle object e =
    go (same_bytes handle known.root) refl (ap (λ r. cond (same_bytes handle r) (Some 0) (lookup (same_bytes handle) other.pairs)) (sym root) ∙ e) where
      go : (b : Bool) → same_bytes handle known.root ≡ b → cond b (Some 0) (lookup (same_bytes handle) other.pairs) ≡ Some object → object_of known handle ≡ Some object
      go true same e = ap (λ (b : Bool). cond b (Some 0) (lookup (same_bytes handle) known.pairs)) same ∙ e
      go false same e = looked_up known pairs handle object bound (ap (lookup (same_bytes handle)) (sym is) ∙ e)

-- the parts of a state after a call
pub record IsAfter (profile : Profile) (state next : Standing) (number : ℕ) (call : NfsCall) (outcome : Outcome) : Type 0 where
  pub binds : with_handles state.binds (given state.binds state.tree number call outcome) ≡ Some next.binds
  pub tree : under profile next.binds state.tree number call outcome ≡ Some next.tree

pub is_after : (profile : Profile) (state next : Standing) (number : ℕ) (call : NfsCall) (outcome : Outcome) → placed_in profile state number call outcome ≡ Some next
    → IsAfter profile state next number call outcome
is_after profile state next number call outcome e =
    let found = chained (λ (b : Bindings). option_map {U = Standing} (λ t. record { tree = t; binds = b; origin = state.origin }) (under profile b state.tree number call outcome))
    (with_handles state.binds (given state.binds state.tree number call outcome)) next e in
    let leads = mapped {B = Standing} (λ t. record { tree = t; binds = found.0; origin = state.origin }) (under profile found.0 state.tree number call outcome) next found.2 in
    let binds : found.0 ≡ next.binds = ap (λ (s : Standing). s.binds) leads.2 in
    let tree : leads.0 ≡ next.tree = ap (λ (s : Standing). s.tree) leads.2 in
    record {
      binds = found.1 ∙ ap Some binds;
      tree = ap (λ (b : Bindings). under profile b state.tree number call outcome) (sym binds) ∙ leads.1 ∙ ap Some tree;
    }

abbrev with_origin : Standing → Tree × Bindings → Standing
with_origin state origin = record state { origin = origin }

pub after_is : (profile : Profile) (state next : Standing) (number : ℕ) (call : NfsCall) (outcome : Outcome)
    → with_handles state.binds (given state.binds state.tree number call outcome) ≡ Some next.binds → under profile next.binds state.tree number call outcome ≡ Some next.tree → next.origin ≡ state.origin
    → placed_in profile state number call outcome ≡ Some next
after_is profile state next number call outcome binds tree origin =
    ap (option_and_then (λ (b : Bindings). option_map {U = Standing} (λ t. record { tree = t; binds = b; origin = state.origin }) (under profile b state.tree number call outcome))) binds
    ∙ ap (option_map {U = Standing} (λ t. record { tree = t; binds = next.binds; origin = state.origin })) tree
    ∙ ap (λ (o : Tree × Bindings). Some (with_origin next o)) (sym origin)

pub handles_stay_bound : HandlesStayBound
handles_stay_bound profile state next number call outcome e =
    (all_bound state.binds next.binds (given state.binds state.tree number call outcome) (is_after profile state next number call outcome e).binds).0

pub plans_are_covered : PlansAreCovered
plans_are_covered profile state plan after number call outcome agrees knows leads =
    let follows = follows profile state.binds plan state.tree after number call outcome agrees knows leads in
    let next : Standing = record { tree = after; binds = follows.more; origin = state.origin } in
    (next, after_is profile state next number call outcome follows.is follows.leads refl, refl, follows.agrees)

pub states_are_of_plans : StatesAreOfPlans
states_are_of_plans profile state next plan number call outcome knows e agrees =
    let parts = is_after profile state next number call outcome e in
    let bound = all_bound state.binds next.binds (given state.binds state.tree number call outcome) parts.binds in
    let known : AgreesWith state.binds plan = λ handle named there. agrees handle named (bound.0 handle named there) in
    let self : AgreesWith state.binds state.binds = λ handle named there. there in
    let pairs : given next.binds state.tree number call outcome ≡ given state.binds state.tree number call outcome =
    given_same next.binds state.binds state.tree number call outcome (all_alike state.binds next.binds state.binds call bound.0 self knows state.tree).first in
    let alike = all_alike state.binds next.binds plan call bound.0 known knows in
    sym (under_same next.binds plan state.tree number call outcome (alike state.tree) profile (λ after _. alike after) (
      ap (are_bound next.binds) pairs ∙ bound.1,
      ap (are_bound plan) pairs ∙ bound_too next.binds plan (given state.binds state.tree number call outcome) agrees bound.1,
    )) ∙ parts.tree
