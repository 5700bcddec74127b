use Rattle.journal.proofs.Meanings.{results_seen, no_reply_at_all}
use Rattle.journal.proofs.parts.results_of.Goals as goal

pub returns-in-Ok : goal.returns-in-Ok
returns-in-Ok c =
    results_seen c.args.xid c.args.message.now c.read_reply.result c.read_reply.ensures.found c.read_reply.ensures.only c.in-Ok.head c.in-Ok.is c.results_in.result c.results_in.ensures

pub returns-in-Err : goal.returns-in-Err
returns-in-Err c =
    no_reply_at_all c.args.xid c.args.message.now c.read_reply.result c.read_reply.ensures.found c.read_reply.ensures.only c.in-Err.field-0 c.in-Err.is
