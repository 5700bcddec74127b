use Rattle.std.proofs.Common.{rules, ◌≡◌, [], refl, sym, subst}
use Rattle.file_tree.specs.Touching.{OnlyTouched}
use Rattle.decision_steps.specs.Differing.{DiffersIn, Notes}
use Rattle.decision_steps.proofs.Differences.{differs_after}
use Rattle.decision_steps.proofs.state.State.with_tree.Goals as goal

pub invariant_of-result : goal.invariant_of-result
invariant_of-result c =
    let lent : c.deref.result.now ≡ c.self.inside.binds.value = search rules in
    let binds : c.in_ok-clone.field-0.value ≡ c.self.inside.binds.value = search rules in
    let tree : c.args.self.now.tree ≡ c.self.inside.tree.value = search rules in
    let notes = subst (λ b. Notes c.self.inside.difference.value c.args.touched b [] c.in_ok-difference.difference.value) lent c.in_ok-difference.ensures in
    let only = subst (λ t. OnlyTouched c.args.touched c.args.tree.value t) tree c.requires in
    subst (λ b. DiffersIn c.in_ok-difference.difference.value c.args.tree.value b) (sym binds)
    (differs_after c.self.inside.difference.value c.in_ok-difference.difference.value c.args.touched c.self.inside.binds.value c.self.inside.binds.value [] c.self.inside.tree.value c.args.tree.value notes c.self.invariant only refl)
