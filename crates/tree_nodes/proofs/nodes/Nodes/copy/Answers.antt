use Rattle.std.proofs.Common.{sym, subst}
use Rattle.tree_nodes.specs.Table.{Table}
use Rattle.tree_nodes.specs.Shown.{Agrees, Shown}
use Rattle.tree_nodes.proofs.Methods.{good_at, one_tree}
use Rattle.tree_nodes.proofs.nodes.Nodes.copy.Goals as goal

pub invariant_of-result : goal.invariant_of-result
invariant_of-result c =
    let shown : Shown c.in_ok-copy.field-0 = subst (λ (z : Table). Shown z) (sym c.in_ok-copy.ensures) c.self.inside.shown in
    (shown, tt)

pub returns : goal.returns
returns c =
    let good = good_at c.self.inside.entries c.self.inside.shown c.args.self.now c.self.view_is c.self.invariant.table in
    one_tree c.in_ok-copy.field-0 _ c.args.self.now (assumption c) (subst (λ (z : Table). Agrees z c.args.self.now) (sym c.in_ok-copy.ensures) good.agrees)
