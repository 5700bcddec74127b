use Rattle.std.proofs.Common.{rules, ◌≡◌, ℕ, List, sym, subst}
use Rattle.tree_nodes.specs.Tree.{Tree}
use Rattle.tree_handles.specs.Binding.{Bindings}
use Rattle.decision_steps.specs.Differing.{AreTheSameBut, NameTheSameBut}
use Rattle.decision_steps.proofs.state.State.renewed.Goals as goal

pub invariant_of-result : goal.invariant_of-result
invariant_of-result c =
    let origin : c.in_ok-shared.field-0.value.origin ≡ (c.args.like.now.tree, c.args.like.now.binds) = search rules in
    let objects : c.in_ok-shared.field-0.value.objects ≡ c.in_ok-unlike_objects.field-0.items = search rules in
    let handles : c.in_ok-shared.field-0.value.handles ≡ c.in_ok-unlike_handles.field-0.items = search rules in
    let tree : c.in_ok-clone-3.field-0.value ≡ c.args.self.now.tree = search rules in
    let binds : c.in_ok-clone-4.field-0.value ≡ c.args.self.now.binds = search rules in
    let in_objects = subst (λ (l : List ℕ). AreTheSameBut l c.args.self.now.tree c.args.like.now.tree) (sym objects) c.in_ok-unlike_objects.ensures in
    let in_handles = subst (λ (l : List (List ℕ)). NameTheSameBut l c.args.self.now.binds c.args.like.now.binds) (sym handles) c.in_ok-unlike_handles.ensures in (
      subst (λ t. AreTheSameBut c.in_ok-shared.field-0.value.objects t c.in_ok-shared.field-0.value.origin.0) (sym tree)
          (subst (λ (p : Tree × Bindings). AreTheSameBut c.in_ok-shared.field-0.value.objects c.args.self.now.tree p.0) (sym origin) in_objects),
      subst (λ b. NameTheSameBut c.in_ok-shared.field-0.value.handles b c.in_ok-shared.field-0.value.origin.1) (sym binds)
          (subst (λ (p : Tree × Bindings). NameTheSameBut c.in_ok-shared.field-0.value.handles c.args.self.now.binds p.1) (sym origin) in_handles),
    )
