use Rattle.tree_nodes.proofs.Replacing.{added_after, more_after}
use Rattle.tree_nodes.proofs.changes.add_in.Goals as goal

pub returns-clause-ok : goal.returns-clause-ok
returns-clause-ok c =
    added_after c.args.pages.now.map c.set_name.new.pages.map c.put.new.self.map c.args.object c.args.entry c.args.name.now c.in_ok-set_name.ensures.ok c.put.ensures.updates c.requires.new c.requires.name c.requires.bare

pub returns-clause-len : goal.returns-clause-len
returns-clause-len c =
    more_after c.args.pages.now.map c.set_name.new.pages.map c.put.new.self.map c.args.object c.args.entry c.args.name.now c.in_ok-set_name.ensures.ok c.put.ensures.updates c.requires.new
