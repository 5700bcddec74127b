use Rattle.std.proofs.Common.{sym, ◌∙◌}
use Rattle.history_mending.proofs.Reading.{empty_is, not_empty}
use Rattle.history_mending.proofs.events.cut_end.Goals as goal

pub returns-then-is_empty : goal.returns-then-is_empty
returns-then-is_empty c = λ over seen fails. empty_is c.args.rest.now (sym c.is_empty.ensures ∙ c.if-is_empty.true)

pub returns : goal.returns
returns c = λ over seen fails. (not_empty c.args.rest.now (sym c.is_empty.ensures ∙ c.if-is_empty.false), fails)
