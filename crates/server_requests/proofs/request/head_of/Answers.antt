use Rattle.std.proofs.Common.{arith}
use Rattle.server_requests.proofs.Heads.{is_head, no_head}
use Rattle.server_requests.proofs.request.head_of.Goals as goal

pub returns-in-Ok : goal.returns-in-Ok
returns-in-Ok c = is_head c.args.message.now c.read_call.result c.read_call.ensures.found c.read_call.ensures.only c.in-Ok.head c.in-Ok.is (omega (arith, c.if-message-gt-RECORD_LIMIT.false))

pub returns-in-Err : goal.returns-in-Err
returns-in-Err c = no_head c.args.message.now c.read_call.result c.read_call.ensures.found c.read_call.ensures.only c.in-Err.field-0 c.in-Err.is
