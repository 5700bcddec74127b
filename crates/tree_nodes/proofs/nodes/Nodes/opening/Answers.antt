use Rattle.tree_nodes.specs.Tree.{opening}
use Rattle.tree_nodes.specs.Shown.{Shown}
use Rattle.tree_nodes.proofs.Methods.{one_tree}
use Rattle.tree_nodes.proofs.Opening.{opens}
use Rattle.tree_nodes.proofs.nodes.Nodes.opening.Goals as goal

pub invariant_of-result : goal.invariant_of-result
invariant_of-result c =
    let entries = c.in_ok-root_alone.field-0 in
    let shown : Shown entries = (opening, (opens entries c.in_ok-root_alone.ensures).agrees) in
    (shown, tt)

pub returns : goal.returns
returns c =
    let entries = c.in_ok-root_alone.field-0 in
    one_tree entries _ opening (assumption c) (opens entries c.in_ok-root_alone.ensures).agrees
