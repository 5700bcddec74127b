use Rattle.std.proofs.Common.{ap, subst, ◌∙◌}
use Rattle.tree_stores.specs.Names.{listed}
use Rattle.tree_stores.specs.Places.{IsAt, IsGap}
use Rattle.tree_stores.proofs.Orders.{holds}
use Rattle.tree_stores.proofs.FewLemmas.{without_at, without_none, gap_differs}
use Rattle.tree_stores.proofs.names.few.remove.Goals as goal

pub returns-in-Ok : goal.returns-in-Ok
returns-in-Ok c =
    let few = c.args.few.now.items in
    let at = subst (λ z. IsAt z c.args.name.now c.in-Ok.index) c.as_slice.ensures.value c.in-Ok.ensures.found in
    ap listed c.remove.ensures.items ∙ without_at c.args.name.now c.remove.result few c.in-Ok.index (holds _ c.requires) at.within (at.same c.remove.result)

pub returns-in_default : goal.returns-in_default
returns-in_default c =
    let few = c.args.few.now.items in
    let gap = subst (λ z. IsGap z c.args.name.now c.in_default.field-0) c.as_slice.ensures.value c.in_default.ensures.absent in
    without_none c.args.name.now few (gap_differs c.args.name.now few c.in_default.field-0 gap)
