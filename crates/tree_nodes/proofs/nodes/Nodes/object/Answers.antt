use Rattle.std.proofs.Common.{◌∙◌}
use Rattle.tree_nodes.specs.Table.{child, held}
use Rattle.tree_nodes.proofs.Looking.{object_in_is}
use Rattle.tree_nodes.proofs.Methods.{good_at}
use Rattle.tree_nodes.proofs.nodes.Nodes.object.Goals as goal

pub returns : goal.returns
returns c =
    let good = good_at c.self.inside.entries c.self.inside.shown c.args.self.now c.self.view_is c.self.invariant.table in
    c.child.ensures ∙ object_in_is c.args.self.now (child c.self.inside.entries) (held c.self.inside.entries) good.table.tree good.agrees c.args.directory c.args.name.now
