use Rattle.rpc_reader.proofs.Replies.{Reads, reply_found, reply_only, reply_fault, reply_fails}
use Rattle.rpc_reader.proofs.reply.read_reply.Goals as goal

pub returns-clause-found : goal.returns-clause-found
returns-clause-found c =
    let reads : Reads c.args.message.now c.whole.new.reader c.whole.result = rw c.new.ensures at c.whole.ensures.start in
    reply_found c.args.message.now c.whole.new.reader c.whole.result reads c.whole.ensures.results

pub returns-clause-only : goal.returns-clause-only
returns-clause-only c =
    let reads : Reads c.args.message.now c.whole.new.reader c.whole.result = rw c.new.ensures at c.whole.ensures.start in
    reply_only c.args.message.now c.whole.new.reader c.whole.result reads c.whole.ensures.results

pub returns-clause-fault : goal.returns-clause-fault
returns-clause-fault c =
    let reads : Reads c.args.message.now c.whole.new.reader c.whole.result = rw c.new.ensures at c.whole.ensures.start in
    reply_fault c.args.message.now c.whole.new.reader c.whole.result reads

pub returns-clause-fails : goal.returns-clause-fails
returns-clause-fails c =
    let reads : Reads c.args.message.now c.whole.new.reader c.whole.result = rw c.new.ensures at c.whole.ensures.start in
    reply_fails c.args.message.now c.whole.new.reader c.whole.result reads
