use Rattle.std.proofs.Common.{ap, ◌∙◌}
use Rattle.std.proofs.lemmas.Result.{IfOk-weaker}
use Rattle.tree_nodes.specs.declared.table.Body.{Body}
use Rattle.tree_nodes.proofs.edits.edit_body.Goals as goal

pub returns-clause-undo : goal.returns-clause-undo
returns-clause-undo c = IfOk-weaker c.edit_content.result _ _ (λ undo gives file is. gives file (ap (λ (z : Body). z.node.content) c.in_ok-body.ensures.value ∙ is)) c.edit_content.ensures.undo
