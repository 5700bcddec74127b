use Rattle.std.proofs.Common.{◌∙◌}
use Rattle.tree_nodes.specs.Table.{child, held}
use Rattle.tree_nodes.proofs.Looking.{above_is, is_numbered}
use Rattle.tree_nodes.proofs.Methods.{good_at, sound}
use Rattle.tree_nodes.proofs.nodes.Nodes.above.Goals as goal

pub returns-clause-value : goal.returns-clause-value
returns-clause-value c =
    let good = good_at c.self.inside.entries c.self.inside.shown c.args.self.now c.self.view_is c.self.invariant.table in
    c.parent_of.ensures ∙ above_is c.args.self.now (child c.self.inside.entries) (held c.self.inside.entries) good.table.tree good.agrees c.args.object

pub returns-clause-sound : goal.returns-clause-sound
returns-clause-sound c =
    let good = good_at c.self.inside.entries c.self.inside.shown c.args.self.now c.self.view_is c.self.invariant.table in
    sound c.self.inside.entries c.args.self.now good

pub returns-clause-numbered : goal.returns-clause-numbered
returns-clause-numbered c =
    let good = good_at c.self.inside.entries c.self.inside.shown c.args.self.now c.self.view_is c.self.invariant.table in
    is_numbered c.args.self.now (child c.self.inside.entries) (held c.self.inside.entries) good.table.tree good.agrees
