use Rattle.std.proofs.Common.{rules}
use Rattle.tree_handles.proofs.OwnNumbers.{noted, noted_before}
use Rattle.tree_handles.proofs.own_numbers.OwnNumbers.note.Goals as goal

pub returns-then-at-clause-ok : goal.returns-then-at-clause-ok
returns-then-at-clause-ok c = noted_before c.args.self.now c.args.object (search rules) (search rules)

pub returns-clause-ok : goal.returns-clause-ok
returns-clause-ok c = noted c.args.self.now c.put.new.items.items c.args.object (search rules) (search rules)
