-- Believed.
-- Which bytes are a call or a reply with its value, and what is wrong with bytes that are neither.
use Rattle.std.specs.Prelude.{◌≡◌, ◌≢◌, ◌⊎◌, ℕ, List, []}
use Rattle.xdr_records.specs.Unread.{Unread, At, whole}
use Rattle.xdr_records.specs.Spelling.{Joined, Spells}
use Rattle.xdr_records.specs.Faults.{Stands, Fails}
use Rattle.rpc_reader.specs.declared.fault.RpcFault.{RpcFault}
use Rattle.rpc_reader.specs.declared.fault.RpcFault.TheVariants.{Trailing}
use Rattle.rpc_reader.specs.Values.{CallValue, Body, ReplyValue}
use Rattle.rpc_reader.specs.Values.Body.{success}
use Rattle.rpc_reader.specs.Heads.{kind_of, CallStart, call_head}
use Rattle.rpc_reader.specs.ReplyHeads.{Status, reply_head}
use Rattle.rpc_reader.specs.ReplyHeads.Status.{results_follow, final}

-- what stands before a call's arguments
abbrev pub call_start : CallValue → CallStart
call_start call = record { xid = call.xid; program = call.program; version = call.version; procedure = call.procedure; flavor = call.flavor }

-- RFC 5531, section 9: a head, and behind it the arguments, all that is left
abbrev pub IsCall : List ℕ → CallValue → Type 0
IsCall message call = Joined (λ head. Spells call_head head (call_start call)) (λ rest. rest ≡ call.args) message

-- RFC 5531, section 9: behind SUCCESS all that is left are the results, and nothing stands behind another status
abbrev pub IsEnding : Status → List ℕ → Body → Type 0
IsEnding results_follow rest body = body ≡ success rest
IsEnding (final status) rest body = (rest ≡ []) × (body ≡ status)

-- RFC 5531, section 9: a head, and behind it the results where there are any
abbrev pub IsReply : List ℕ → ReplyValue → Type 0
IsReply message reply = (status : Status) × Joined (λ head. Spells reply_head head (record { xid = reply.xid; status = status })) (λ rest. IsEnding status rest reply.body) message

-- ---- for the prover, and for callers

-- an item of the head is the first at fault
abbrev pub CallFails : List ℕ → RpcFault → Type 0
CallFails message fault = (f : At RpcFault) × Fails kind_of call_head (whole message) f × (f.kind ≡ fault)

-- an item of the head is the first at fault, or bytes stand behind a head that ends the reply
abbrev pub ReplyFails : List ℕ → RpcFault → Type 0
ReplyFails message fault =
    ((f : At RpcFault) × Fails kind_of reply_head (whole message) f × (f.kind ≡ fault))
    ⊎ (xid : ℕ) × (body : Body) × (after : Unread) × Stands (λ head. Spells reply_head head (record { xid = xid; status = final body })) (whole message) after × (after.rest ≢ []) × (fault ≡ Trailing)
