-- For the prover, and for callers.
-- What a record is for the one call that is on its way: RFC 5531, section 9, the transaction number of struct rpc_msg.
use Rattle.std.specs.Prelude.{◌≡◌, ◌≢◌, ℕ, List, Result, Ok, Err}
use Rattle.rpc_reader.specs.Values.{Body}
use Rattle.rpc_reader.specs.Messages.{IsReply, ReplyFails}
use Rattle.rpc_connection.specs.declared.fault.ConnectionFault.{ConnectionFault}
use Rattle.rpc_connection.specs.declared.fault.ConnectionFault.TheVariants as faults

-- the record is a reply with this transaction number
abbrev pub IsReplyTo : ℕ → List ℕ → Type 0
IsReplyTo xid message = (body : Body) × IsReply message (record { xid = xid; body = body })

-- the record is what is told of it: a reply with the number, one with another number, or no reply, with the fault that the reader names
abbrev pub IsTold : ℕ → List ℕ → Result (Unit {0}) ConnectionFault → Type 0
IsTold xid message (Ok fine) = IsReplyTo xid message
IsTold xid message (Err (faults.OtherNumber other)) = IsReplyTo other message × (other ≢ xid)
IsTold xid message (Err (faults.NotRpc fault)) = ReplyFails message fault
IsTold xid message (Err other) = ⊥
