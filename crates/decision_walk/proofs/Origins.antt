-- lists of states that are all compared by the same
use Rattle.std.proofs.Common.{◌≡◌, ℕ, ◌<◌, List, [], ◌∷◌, ◌++◌, length, Some, get_or, refl, sym, ap, ◌∙◌, subst, arith}
use Rattle.std.specs.Prelude.{Contains}
use Rattle.std.proofs.lemmas.List.Elements.{Contains-append_left, Contains-append_right, Contains-get_or}
use Rattle.tree_nodes.specs.Tree.{Tree}
use Rattle.tree_handles.specs.Binding.{Bindings}
use Rattle.decision_core.proofs.Sets.{all_push}
use Rattle.decision_walk.specs.View.{WalkView, AllOf, Adds, AddsFrom}
use Rattle.decision_walk.proofs.Guesses.{all_contained}

-- nothing is compared by anything
pub none_of : (origin : Tree × Bindings) (states : List WalkView) → states ≡ [] → AllOf origin states
none_of origin states none = subst (AllOf origin) (sym none) tt

pub adds_nothing : (origin : Tree × Bindings) (states : List WalkView) → Adds origin states states
adds_nothing origin states = (λ s there. there, λ all. all)

pub adds_on : (origin : Tree × Bindings) (one two three : List WalkView) → Adds origin one two → Adds origin two three → Adds origin one three
adds_on origin one two three first second = (λ s there. second.0 s (first.0 s there), λ all. second.1 (first.1 all))

-- so it is by another name
pub adds_as : (one other : Tree × Bindings) (old new : List WalkView) → one ≡ other → Adds one old new → Adds other old new
adds_as one other old new same adds = subst (λ o. Adds o old new) same adds

-- one state more
pub all_and : (origin : Tree × Bindings) (old : List WalkView) (child : WalkView) → child.origin ≡ origin → AllOf origin old → AllOf origin (old ++ child ∷ [])
all_and origin old child same all = all_push (λ (s : WalkView). Some s.origin ≡ Some origin) old child all (subst (λ o. Some child.origin ≡ Some o) same refl)

pub adds_one : (origin : Tree × Bindings) (old new : List WalkView) (child : WalkView) → new ≡ old ++ child ∷ [] → child.origin ≡ origin → Adds origin old new × Contains new child
adds_one origin old new child is same = (
  (λ s there. subst (λ l. Contains l s) (sym is) (Contains-append_left old (child ∷ []) s there), λ all. subst (AllOf origin) (sym is) (all_and origin old child same all)),
  subst (λ l. Contains l child) (sym is) (Contains-append_right old (child ∷ []) child (0, omega arith, refl)),
)

-- ---- what comes of each of some states

some_is : (a b : Tree × Bindings) → Some a ≡ Some b → a ≡ b
some_is a b e = cc

-- what one of them is compared by
pub one_of : (origin : Tree × Bindings) (from : List WalkView) (i : ℕ) (d : WalkView) → i < length from → AllOf origin from → (get_or from i d).origin ≡ origin
one_of origin from i d inside all =
    some_is (get_or from i d).origin origin (all_contained (λ (s : WalkView). Some s.origin ≡ Some origin) from (get_or from i d) (Contains-get_or from i d inside) all)

pub adds_none_from : (from states : List WalkView) → AddsFrom from states states
adds_none_from from states = (λ s there. there, λ origin of all. all)

pub adds_one_from : (from old middle new : List WalkView) (i : ℕ) (d : WalkView) → i < length from → AddsFrom from old middle → Adds (get_or from i d).origin middle new → AddsFrom from old new
adds_one_from from old middle new i d inside first second = (
  (λ s there. second.0 s (first.0 s there)),
  (λ origin of all. (adds_as (get_or from i d).origin origin middle new (one_of origin from i d inside of) second).1 (first.1 origin of all)),
)

pub adds_all_from : (origin : Tree × Bindings) (from old new : List WalkView) → AllOf origin from → AddsFrom from old new → Adds origin old new
adds_all_from origin from old new of adds = (adds.0, adds.1 origin of)

-- ---- a state is what its fields are

pub fields_are : (a b : WalkView) → a.tree ≡ b.tree → a.writes ≡ b.writes → a.binds ≡ b.binds → a.base ≡ b.base → a.era ≡ b.era → a.past ≡ b.past → a.placed ≡ b.placed → a.answered_to ≡ b.answered_to
    → a.barred ≡ b.barred → a.origin ≡ b.origin → a ≡ b
fields_are a b tree writes binds base era past placed answered barred origin =
    ap (λ x. record a { tree = x }) tree
    ∙ ap (λ x. record a { tree = b.tree; writes = x }) writes
    ∙ ap (λ x. record a { tree = b.tree; writes = b.writes; binds = x }) binds
    ∙ ap (λ x. record a { tree = b.tree; writes = b.writes; binds = b.binds; base = x }) base
    ∙ ap (λ x. record b { era = x; past = a.past; placed = a.placed; answered_to = a.answered_to; barred = a.barred; origin = a.origin }) era
    ∙ ap (λ x. record b { past = x; placed = a.placed; answered_to = a.answered_to; barred = a.barred; origin = a.origin }) past
    ∙ ap (λ x. record b { placed = x; answered_to = a.answered_to; barred = a.barred; origin = a.origin }) placed
    ∙ ap (λ x. record b { answered_to = x; barred = a.barred; origin = a.origin }) answered
    ∙ ap (λ x. record b { barred = x; origin = a.origin }) barred
    ∙ ap (λ x. record b { origin = x }) origin
