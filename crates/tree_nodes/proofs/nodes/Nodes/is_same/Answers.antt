use Rattle.tree_nodes.proofs.Methods.{good_at}
use Rattle.tree_nodes.proofs.Alike.{alike_trees}
use Rattle.tree_nodes.proofs.nodes.Nodes.is_same.Goals as goal

pub returns : goal.returns
returns c = λ t.
    let good = good_at c.self.inside.entries c.self.inside.shown c.args.self.now c.self.view_is c.self.invariant.table in
    let other = good_at c.other.inside.entries c.other.inside.shown c.args.other.now c.other.view_is c.other.invariant.table in
    alike_trees c.self.inside.entries c.other.inside.entries c.args.self.now c.args.other.now good other (c.same_entries.ensures t)
