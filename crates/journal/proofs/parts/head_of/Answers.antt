use Rattle.std.proofs.Common.{sym, ◌∙◌}
use Rattle.journal.proofs.Meanings.{head_asks, head_asks_none, no_head}
use Rattle.journal.proofs.parts.head_of.Goals as goal

pub returns-then-asks_change : goal.returns-then-asks_change
returns-then-asks_change c =
    head_asks c.args.message.now c.read_call.result c.read_call.ensures.found c.read_call.ensures.only c.in-Ok.head c.in-Ok.is (sym c.asks_change.ensures ∙ c.if-asks_change.true)

pub returns-else-asks_change : goal.returns-else-asks_change
returns-else-asks_change c =
    head_asks_none c.args.message.now c.read_call.result c.read_call.ensures.found c.read_call.ensures.only c.in-Ok.head c.in-Ok.is (sym c.asks_change.ensures ∙ c.if-asks_change.false)

pub returns-in-Err : goal.returns-in-Err
returns-in-Err c = no_head c.args.message.now c.read_call.result c.read_call.ensures.found c.read_call.ensures.only c.in-Err.field-0 c.in-Err.is
