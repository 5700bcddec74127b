use Rattle.rpc_reader.proofs.Calls.{Reads, call_found, call_only, call_fault, call_fails}
use Rattle.rpc_reader.proofs.call.read_call.Goals as goal

pub returns-clause-found : goal.returns-clause-found
returns-clause-found c =
    let reads : Reads c.args.message.now c.head.new.reader c.head.result = rw c.new.ensures at c.head.ensures.start in
    call_found c.args.message.now c.head.new.reader c.head.result reads c.head.ensures.args

pub returns-clause-only : goal.returns-clause-only
returns-clause-only c =
    let reads : Reads c.args.message.now c.head.new.reader c.head.result = rw c.new.ensures at c.head.ensures.start in
    call_only c.args.message.now c.head.new.reader c.head.result reads c.head.ensures.args

pub returns-clause-fault : goal.returns-clause-fault
returns-clause-fault c =
    let reads : Reads c.args.message.now c.head.new.reader c.head.result = rw c.new.ensures at c.head.ensures.start in
    call_fault c.args.message.now c.head.new.reader c.head.result reads

pub returns-clause-fails : goal.returns-clause-fails
returns-clause-fails c =
    let reads : Reads c.args.message.now c.head.new.reader c.head.result = rw c.new.ensures at c.head.ensures.start in
    call_fails c.args.message.now c.head.new.reader c.head.result reads
