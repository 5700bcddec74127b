use Rattle.std.proofs.Common.{◌≡◌, [], ap, ◌∙◌}
use Rattle.tree_nodes.specs.declared.node.Content.TheVariants.{Directory}
use Rattle.tree_nodes.specs.declared.table.Body.{Body}
use Rattle.tree_nodes.proofs.Tables.{opening_alone}
use Rattle.tree_nodes.proofs.table.root_alone.Goals as goal

pub returns : goal.returns
returns c =
    let name : c.from_vec.result ≡ [] = c.from_vec.ensures ∙ c.new.ensures.items in
    let body = c.in_ok-body.ensures in
    opening_alone c.new-entries.result c.insert.new.self _ c.new-entries.ensures c.in_ok-insert.ensures.updates
    (ap (λ (z : Body). (0, z.name, z.node)) body ∙ (λ i. (0, name i, record { object = 0; content = Directory })))
    (ap (λ (z : Body). z.names) body ∙ c.new-2.ensures)
