use Rattle.std.proofs.Common.{sym, ap, ◌∙◌}
use Rattle.std.specs.Prelude.{not, ◌&&◌}
use Rattle.tree_handles.specs.tree_nodes_specs.Tree.{is_bare}
use Rattle.tree_answers.proofs.name_causes.is_filled_directory.Goals as goal

pub returns-then-is_directory : goal.returns-then-is_directory
returns-then-is_directory c = λ path at.
    ap not (c.is_bare.ensures (path, c.args.node.now) at) ∙ ap (λ b. b && not (is_bare c.args.nodes.now path)) (sym c.if-is_directory.true ∙ c.is_directory.ensures)
