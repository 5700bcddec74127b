use Rattle.std.proofs.Common.{sym, ◌∙◌}
use Rattle.book_ledger.proofs.Asked.{head_asks, head_asks_none, no_head}
use Rattle.book_ledger.proofs.calls.judged_head.Goals as goal

pub returns-then-asks_judged : goal.returns-then-asks_judged
returns-then-asks_judged c =
    head_asks c.args.message.now c.read_call.result c.read_call.ensures.found c.read_call.ensures.only c.in-Ok.head c.in-Ok.is (sym c.asks_judged.ensures ∙ c.if-asks_judged.true)

pub returns-else-asks_judged : goal.returns-else-asks_judged
returns-else-asks_judged c =
    head_asks_none c.args.message.now c.read_call.result c.read_call.ensures.found c.read_call.ensures.only c.in-Ok.head c.in-Ok.is (sym c.asks_judged.ensures ∙ c.if-asks_judged.false)

pub returns-in-Err : goal.returns-in-Err
returns-in-Err c = no_head c.args.message.now c.read_call.result c.read_call.ensures.found c.read_call.ensures.only c.in-Err.field-0 c.in-Err.is
