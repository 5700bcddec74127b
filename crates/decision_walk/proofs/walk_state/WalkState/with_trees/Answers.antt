use Rattle.std.proofs.Common.{◌≡◌, IfSome, refl, ap, subst, rules}
use Rattle.tree_nodes.specs.Tree.{Tree}
use Rattle.tree_handles.specs.Binding.{Bindings}
use Rattle.decision_walk.specs.View.{KeptView, WalkView}
use Rattle.decision_walk.proofs.Origins.{fields_are}
use Rattle.decision_walk.proofs.walk_state.WalkState.with_trees.Goals as goal

pub invariant_of-result : goal.invariant_of-result
invariant_of-result c =
    let same : c.args.self.now.origin ≡ c.in_ok-stands.stands.origin = search rules in
    subst (λ (o : Tree × Bindings). IfSome c.args.base (λ (b : KeptView). b.origin ≡ o)) same c.requires.base

pub returns : goal.returns
returns c =
    let tree : c.in_ok-stands.stands.tree ≡ c.args.kept.tree = search rules in
    let writes : c.in_ok-from_slice.field-0.items ≡ c.args.kept.writes = search rules in
    let binds : c.in_ok-stands.stands.binds ≡ c.args.self.now.binds = search rules in
    let era : c.self.inside.era ≡ c.args.self.now.era = ap (λ (v : WalkView). v.era) c.self.view_is in
    let past : c.self.inside.past ≡ c.args.self.now.past = ap (λ (v : WalkView). v.past) c.self.view_is in
    let answered : c.self.inside.answered_to ≡ c.args.self.now.answered_to = ap (λ (v : WalkView). v.answered_to) c.self.view_is in
    let origin : c.in_ok-stands.stands.origin ≡ c.args.self.now.origin = search rules in
    fields_are _ _ tree writes binds refl era past c.in_ok-copy_placed.ensures answered c.in_ok-copy_bars.ensures origin
