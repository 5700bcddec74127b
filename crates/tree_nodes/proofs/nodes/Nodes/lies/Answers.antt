use Rattle.tree_nodes.specs.Table.{child, held}
use Rattle.tree_nodes.proofs.Methods.{good_at}
use Rattle.tree_nodes.proofs.Paths.{lies_in}
use Rattle.tree_nodes.proofs.nodes.Nodes.lies.Goals as goal

pub returns : goal.returns
returns c = λ e at apart.
    let good = good_at c.self.inside.entries c.self.inside.shown c.args.self.now c.self.view_is c.self.invariant.table in
    lies_in c.args.self.now (child c.self.inside.entries) (held c.self.inside.entries) good.table.tree good.agrees c.args.object e _ c.place_of.ensures at apart
