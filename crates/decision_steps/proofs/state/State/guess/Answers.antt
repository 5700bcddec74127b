use Rattle.std.proofs.Common.{◌≡◌, ℕ, [], ◌∷◌, Option, None, Some, refl, sym, ap, subst, rules}
use Rattle.std.specs.Prelude.{option_and_then}
use Rattle.tree_handles.specs.Binding.{object_of}
use Rattle.decision_steps.specs.Known.{AgreesWith}
use Rattle.decision_steps.specs.Bound.{bound_behind, bound_where, with_handles}
use Rattle.decision_steps.specs.Differing.{DiffersIn, Notes}
use Rattle.decision_steps.proofs.Differences.{differs_after}
use Rattle.decision_steps.proofs.Covering.{names_it, stays_agreed}
use Rattle.decision_steps.proofs.state.State.guess.Goals as goal

pub returns-clause-names : goal.returns-clause-names
returns-clause-names c =
    let is : c.in_ok-shared_binds.field-0.value ≡ bound_behind c.args.self.now.binds ((c.args.handle.now, c.args.object) ∷ []) = search rules in
    subst (λ b. object_of b c.args.handle.now ≡ Some c.args.object) (sym is) (names_it c.args.self.now.binds c.args.handle.now c.args.object c.requires)

pub returns-clause-covers : goal.returns-clause-covers
returns-clause-covers c =
    let is : c.in_ok-shared_binds.field-0.value ≡ bound_behind c.args.self.now.binds ((c.args.handle.now, c.args.object) ∷ []) = search rules in
    λ plan agrees there. subst (λ b. AgreesWith b plan) (sym is) (stays_agreed c.args.self.now.binds c.args.handle.now c.args.object plan agrees there)

pub invariant_of-result : goal.invariant_of-result
invariant_of-result c =
    let lent : c.deref-2.result.now ≡ c.self.inside.binds.value = search rules in
    let tree : c.in_ok-clone.field-0.value ≡ c.self.inside.tree.value = search rules in
    let is : c.in_ok-shared_binds.field-0.value ≡ bound_behind c.self.inside.binds.value ((c.args.handle.now, c.args.object) ∷ []) = search rules in
    let new : object_of c.self.inside.binds.value c.args.handle.now ≡ None = search rules in
    let notes = subst (λ b. Notes c.self.inside.difference.value (None, None) b ((c.args.handle.now, c.args.object) ∷ []) c.in_ok-difference.difference.value) lent c.in_ok-difference.ensures in
    let bound = ap (λ (o : Option ℕ). option_and_then (λ more. with_handles more []) (bound_where c.self.inside.binds.value (c.args.handle.now, c.args.object) o)) new in
    subst (λ t. DiffersIn c.in_ok-difference.difference.value t c.in_ok-shared_binds.field-0.value) (sym tree)
    (subst (λ b. DiffersIn c.in_ok-difference.difference.value c.self.inside.tree.value b) (sym is)
    (differs_after c.self.inside.difference.value c.in_ok-difference.difference.value (None, None) c.self.inside.binds.value (bound_behind c.self.inside.binds.value ((c.args.handle.now, c.args.object) ∷ []))
    ((c.args.handle.now, c.args.object) ∷ []) c.self.inside.tree.value c.self.inside.tree.value notes c.self.invariant (λ o apart. refl) bound))
