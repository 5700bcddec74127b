use Rattle.std.proofs.Common.{◌∙◌}
use Rattle.tree_nodes.proofs.Paths.{gather_all}
use Rattle.tree_nodes.proofs.nodes.Nodes.path.Goals as goal

pub returns : goal.returns
returns c = λ e is.
    c.new.ensures ∙ c.reverse.ensures.items ∙ gather_all c.args.self.now c.args.object c.loop-at.at c.loop-at.names.items c.requires.numbered c.loop-at-test.false c.loop-at.invariant e is
