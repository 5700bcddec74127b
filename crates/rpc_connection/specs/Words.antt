-- For the prover, and for callers.
-- The words that are printed of a fault (words of this project's own).
use Rattle.std.specs.Prelude.{ℕ, List, ◌++◌, codes, decimal}
use Rattle.rpc_reader.specs.FaultText.{rpc_fault_words}
use Rattle.rpc_connection.specs.declared.fault.ConnectionFault.{ConnectionFault}
use Rattle.rpc_connection.specs.declared.fault.ConnectionFault.TheVariants as faults

abbrev pub connection_fault_words : ConnectionFault → List ℕ
connection_fault_words faults.CannotConnect =
    codes "the server takes no connection: look whether it runs, and whether the address and the port are right"
connection_fault_words faults.Ended = codes "the server ended the connection: look at its log"
connection_fault_words faults.NoReply = codes "no reply came in time: look at the server's log, or wait longer for a reply"
connection_fault_words faults.RecordTooLong =
    codes "a record is over 2097152 bytes: look whether the program at this port speaks RPC"
connection_fault_words (faults.NotRpc fault) =
    codes "what came is no RPC reply, " ++ (rpc_fault_words fault ++ codes ": look whether the program at this port speaks RPC")
connection_fault_words (faults.OtherNumber xid) =
    codes "the reply has the transaction number " ++ (decimal xid ++ codes ", which wasn't asked: the server's reply is wrong")
connection_fault_words faults.NoMemory = codes "out of memory"
