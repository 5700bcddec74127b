use Rattle.std.proofs.Common.{sym, ◌∙◌, rules}
use Rattle.tree_handles.proofs.OwnNumbers.{lost_number}
use Rattle.tree_handles.proofs.own_numbers.OwnNumbers.lose.Goals as goal

pub returns-then-at : goal.returns-then-at
returns-then-at c = lost_number c.args.self.now c.clear.new.items.items c.args.handle.now c.in-Some.number (sym c.number_of.ensures ∙ c.in-Some.is) (search rules)
