use Rattle.std.proofs.Common.{◌≡◌, None, [], ◌∷◌, ◌++◌, sym, ap, ◌∙◌}
use Rattle.std.specs.Prelude.{option_and_then}
use Rattle.std.specs.FinMap as map
use Rattle.tree_nodes.specs.Table.{child, held}
use Rattle.tree_nodes.proofs.Looking.{node_in_is, stands_there}
use Rattle.tree_nodes.proofs.Rooted.{bare_absent}
use Rattle.tree_nodes.proofs.Methods.{good_at, sound}
use Rattle.tree_nodes.proofs.nodes.Nodes.is_bare_at.Goals as goal

pub returns-in-Some : goal.returns-in-Some
returns-in-Some c = λ e at.
    let m = c.self.inside.entries in
    let good = good_at m c.self.inside.shown c.args.self.now c.self.view_is c.self.invariant.table in
    let here = c.in-Some.ensures ∙ node_in_is c.args.self.now (child m) (held m) good.table.tree good.agrees c.args.directory c.args.name.now in
    c.is_bare.ensures (e.0 ++ c.args.name.now ∷ [], c.in-Some.node.now)
    (stands_there c.args.self.now (child m) (held m) good.table.tree good.agrees c.args.directory c.args.name.now e c.in-Some.node.now at (sym here))

pub returns-in-None : goal.returns-in-None
returns-in-None c = λ e at.
    let t = c.args.self.now in
    let m = c.self.inside.entries in
    let good = good_at m c.self.inside.shown t c.self.view_is c.self.invariant.table in
    let here = c.in-None.ensures ∙ node_in_is t (child m) (held m) good.table.tree good.agrees c.args.directory c.args.name.now in
    let none : map.get t (e.0 ++ c.args.name.now ∷ []) ≡ None = sym (ap (option_and_then (λ d. map.get t (d.0 ++ c.args.name.now ∷ []))) at) ∙ sym here in
    sym (bare_absent t (sound m t good) (e.0 ++ c.args.name.now ∷ []) none)
