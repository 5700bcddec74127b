-- For the prover, and for callers.
-- The words that are printed of a fault (words of this project's own).
use Rattle.std.specs.Prelude.{ℕ, List, codes}
use Rattle.rpc_reader.specs.declared.fault.RpcFault.{RpcFault}
use Rattle.rpc_reader.specs.declared.fault.RpcFault.TheVariants as faults

abbrev pub rpc_fault_words : RpcFault → List ℕ
rpc_fault_words faults.Short = codes "bytes are missing"
rpc_fault_words faults.NotCall = codes "the message is no call"
rpc_fault_words faults.NotReply = codes "the message is no reply"
rpc_fault_words faults.BadVersion = codes "the version of the protocol isn't 2"
rpc_fault_words faults.BadEnum = codes "a word is none of its list"
rpc_fault_words faults.AuthTooLong = codes "a credential or a verifier is too long"
rpc_fault_words faults.Trailing = codes "bytes stand behind the reply"
