use Rattle.std.proofs.Common.{sym, ◌∙◌}
use Rattle.tree_nodes.specs.Table.{child, held}
use Rattle.tree_nodes.proofs.Climbing.{beyond_front}
use Rattle.tree_nodes.proofs.Methods.{good_at}
use Rattle.tree_nodes.proofs.nodes.Nodes.is_beyond.Goals as goal

pub returns : goal.returns
returns c = λ yes.
    let good = good_at c.self.inside.entries c.self.inside.shown c.args.self.now c.self.view_is c.self.invariant.table in
    beyond_front c.args.self.now (child c.self.inside.entries) (held c.self.inside.entries) good.table.tree good.agrees c.args.object c.args.front (c.look_below.ensures.outside (sym c.is_some.ensures ∙ yes))
