use Rattle.std.proofs.Common.{◌≡◌, sym, ap, ◌∙◌}
use Rattle.std.specs.Prelude.{option_map}
use Rattle.tree_nodes.specs.Table.{child, held}
use Rattle.tree_nodes.proofs.Methods.{good_at}
use Rattle.tree_nodes.proofs.Spots.{spot_is, shown}
use Rattle.tree_nodes.proofs.nodes.Nodes.has_spot_of.Goals as goal

pub returns : goal.returns
returns c = λ same.
    let m = c.self.inside.entries in
    let n = c.other.inside.entries in
    let good = good_at m c.self.inside.shown c.args.self.now c.self.view_is c.self.invariant.table in
    let other = good_at n c.other.inside.shown c.args.other.now c.other.view_is c.other.invariant.table in
    spot_is c.args.self.now (child m) (held m) good.table.tree good.agrees c.args.object ∙ ap (option_map (shown c.args.object)) (c.same_object.ensures same)
    ∙ sym (spot_is c.args.other.now (child n) (held n) other.table.tree other.agrees c.args.object)
