use Rattle.std.proofs.Common.{rules, ◌≡◌, sym, subst}
use Rattle.decision_steps.specs.Differing.{DifferenceView, DiffersIn, Keeps}
use Rattle.decision_steps.proofs.Differences.{differs_mixed}
use Rattle.decision_steps.proofs.state.State.with_tree_of.Goals as goal

pub invariant_of-result : goal.invariant_of-result
invariant_of-result c =
    let origin : c.in_ok-shared.field-0.value.origin ≡ c.self.inside.difference.value.origin = search rules in
    let objects : c.in_ok-shared.field-0.value.objects ≡ c.other.inside.difference.value.objects = search rules in
    let ours : c.deref.result.now ≡ c.self.inside.difference.value = search rules in
    let made : c.in_ok-shared.field-0.value ≡ c.in_ok-difference.difference = search rules in
    let handles = subst (λ (d : DifferenceView). Keeps c.self.inside.difference.value.handles d.handles) (sym made)
    (subst (λ (d : DifferenceView). Keeps d.handles c.in_ok-difference.difference.handles) ours c.in_ok-difference.ensures.handles) in
    let same : c.self.inside.difference.value.origin ≡ c.other.inside.difference.value.origin = search rules in
    let tree : c.in_ok-clone.field-0.value ≡ c.other.inside.tree.value = search rules in
    let binds : c.in_ok-clone-2.field-0.value ≡ c.self.inside.binds.value = search rules in
    subst (λ t. DiffersIn c.in_ok-shared.field-0.value t c.in_ok-clone-2.field-0.value) (sym tree)
    (subst (λ b. DiffersIn c.in_ok-shared.field-0.value c.other.inside.tree.value b) (sym binds)
    (differs_mixed c.self.inside.difference.value c.other.inside.difference.value same c.in_ok-shared.field-0.value c.other.inside.tree.value c.self.inside.binds.value origin objects handles c.other.invariant.0 c.self.invariant.1))
