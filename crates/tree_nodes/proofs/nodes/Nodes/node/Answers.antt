use Rattle.std.proofs.Common.{◌∙◌}
use Rattle.tree_nodes.specs.Table.{child, held}
use Rattle.tree_nodes.proofs.Looking.{node_is}
use Rattle.tree_nodes.proofs.Methods.{good_at}
use Rattle.tree_nodes.proofs.nodes.Nodes.node.Goals as goal

pub returns : goal.returns
returns c =
    let good = good_at c.self.inside.entries c.self.inside.shown c.args.self.now c.self.view_is c.self.invariant.table in
    c.node_at.ensures ∙ node_is c.args.self.now (child c.self.inside.entries) (held c.self.inside.entries) good.table.tree good.agrees c.args.object
