use Rattle.std.proofs.Common.{sym, ap, ◌∙◌}
use Rattle.tree_answers.specs.Look.{object_at}
use Rattle.tree_answers.proofs.Standing.{itself}
use Rattle.tree_answers.proofs.look.object_named.Goals as goal

pub returns-then-is_dot : goal.returns-then-is_dot
returns-then-is_dot c =
    c.object_at.ensures ∙ ap object_at c.node.ensures ∙ itself c.args.nodes.now c.args.directory c.args.name.now (sym c.is_dot.ensures ∙ c.if-is_dot.true)
