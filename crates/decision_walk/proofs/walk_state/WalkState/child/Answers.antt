use Rattle.std.proofs.Common.{◌≡◌, IfSome, subst, rules}
use Rattle.tree_nodes.specs.Tree.{Tree}
use Rattle.tree_handles.specs.Binding.{Bindings}
use Rattle.decision_walk.specs.View.{KeptView}
use Rattle.decision_walk.proofs.walk_state.WalkState.child.Goals as goal

pub invariant_of-result : goal.invariant_of-result
invariant_of-result c =
    let same : c.args.self.now.origin ≡ c.in_ok-copy.field-0.origin = search rules in
    subst (λ (o : Tree × Bindings). IfSome c.args.base (λ (b : KeptView). b.origin ≡ o)) same c.requires.base
