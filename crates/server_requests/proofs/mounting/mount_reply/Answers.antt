use Rattle.server_requests.proofs.Replies.{call_replied, not_replied}
use Rattle.server_requests.proofs.mounting.mount_reply.Goals as goal

pub returns-in-Ok : goal.returns-in-Ok
returns-in-Ok c = call_replied c.args.message.now c.read_call.result c.read_call.ensures.found c.read_call.ensures.only c.in-Ok.head c.in-Ok.is c.reply_to.result c.reply_to.ensures

pub returns-in-Err : goal.returns-in-Err
returns-in-Err c = not_replied c.args.message.now c.read_call.result c.read_call.ensures.found c.read_call.ensures.only c.in-Err.field-0 c.in-Err.is
