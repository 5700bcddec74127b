use Rattle.tree_nodes.proofs.Naming.{are_names, names_stand}
use Rattle.tree_nodes.proofs.Methods.{good_at}
use Rattle.tree_nodes.proofs.nodes.Nodes.names.Goals as goal

pub returns-clause-names : goal.returns-clause-names
returns-clause-names c =
    let m = c.self.inside.entries in
    let good = good_at m c.self.inside.shown c.args.self.now c.self.view_is c.self.invariant.table in
    are_names m c.args.self.now good.table.tree good.agrees c.args.directory c.names_of.result c.names_of.ensures

pub returns-clause-stands : goal.returns-clause-stands
returns-clause-stands c =
    let m = c.self.inside.entries in
    let good = good_at m c.self.inside.shown c.args.self.now c.self.view_is c.self.invariant.table in
    names_stand m c.args.self.now good.table.tree good.agrees c.args.directory c.names_of.result c.names_of.ensures
