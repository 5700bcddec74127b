use Rattle.std.proofs.Common.{ℕ, List, [], refl, subst}
use Rattle.std.specs.FinMap as map
use Rattle.tree_nodes.specs.declared.table.Entry.{Entry}
use Rattle.tree_nodes.proofs.Alike.{Compared, same_said}
use Rattle.tree_nodes.proofs.same.same_entries.Goals as goal

pub returns-in-None-next : goal.returns-in-None-next
returns-in-None-next c = λ _.
    let ours = map.entries c.args.one.now in
    let theirs = map.entries c.args.other.now in
    let left = subst (λ (z : List (ℕ × Entry)). Compared ours theirs z c.loop-object.theirs) c.in-None.ensures.steps.0 c.loop-object.invariant in
    let both = subst (λ (z : List (ℕ × Entry)). Compared ours theirs [] z) c.in-None-next.ensures.steps.0 left in
    same_said c.args.one.now c.args.other.now (both refl)
