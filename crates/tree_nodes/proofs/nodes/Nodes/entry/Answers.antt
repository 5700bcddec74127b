use Rattle.std.proofs.Common.{◌∙◌, sym, ap}
use Rattle.std.specs.Prelude.{option_and_then}
use Rattle.tree_nodes.specs.Tree.{entry_of}
use Rattle.tree_nodes.specs.Table.{child, held}
use Rattle.tree_nodes.proofs.Looking.{node_in_is, place_is, stands_there}
use Rattle.tree_nodes.proofs.Methods.{good_at}
use Rattle.tree_nodes.proofs.nodes.Nodes.entry.Goals as goal

pub returns-clause-node : goal.returns-clause-node
returns-clause-node c =
    let good = good_at c.self.inside.entries c.self.inside.shown c.args.self.now c.self.view_is c.self.invariant.table in
    c.entry_in.ensures ∙ node_in_is c.args.self.now (child c.self.inside.entries) (held c.self.inside.entries) good.table.tree good.agrees c.args.directory c.args.name.now

pub returns-clause-place : goal.returns-clause-place
returns-clause-place c =
    let good = good_at c.self.inside.entries c.self.inside.shown c.args.self.now c.self.view_is c.self.invariant.table in
    ap (option_and_then (λ n. entry_of c.args.self.now n.object)) (c.entry_in.ensures ∙ node_in_is c.args.self.now (child c.self.inside.entries) (held c.self.inside.entries) good.table.tree good.agrees c.args.directory c.args.name.now)
    ∙ place_is c.args.self.now (child c.self.inside.entries) (held c.self.inside.entries) good.table.tree good.agrees c.args.directory c.args.name.now

pub returns-clause-stands : goal.returns-clause-stands
returns-clause-stands c = λ e node at is.
    let good = good_at c.self.inside.entries c.self.inside.shown c.args.self.now c.self.view_is c.self.invariant.table in
    let here = c.entry_in.ensures ∙ node_in_is c.args.self.now (child c.self.inside.entries) (held c.self.inside.entries) good.table.tree good.agrees c.args.directory c.args.name.now in
    stands_there c.args.self.now (child c.self.inside.entries) (held c.self.inside.entries) good.table.tree good.agrees c.args.directory c.args.name.now e node at (sym here ∙ is)
