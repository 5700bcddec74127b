-- For the prover.
-- What a message is that comes to a call of a walk.
use Rattle.std.specs.Prelude.{◌≡◌, ℕ, List, Some}
use Rattle.nfs3_msgs.specs.Messages.{IsResult, IsResultFault}
use Rattle.rpc_reader.specs.Values.{Body}
use Rattle.rpc_reader.specs.Values.Body.{success}
use Rattle.rpc_reader.specs.Messages.{IsReply, ReplyFails}
use Rattle.rpc_client.specs.Refusals.{refusal_in}
use Rattle.export_walk.specs.declared.hearing.Heard.{Heard}
use Rattle.export_walk.specs.declared.hearing.Heard.TheVariants as heard
use Rattle.export_walk.specs.Noted.{IsAnswer}

abbrev pub IsHeard : ℕ → List ℕ → Heard → Type 0
-- a reply with a result of the procedure
IsHeard procedure message (heard.Answer reply) = IsAnswer procedure message reply
-- a reply with results that are none of the procedure: the first item at fault
IsHeard procedure message (heard.BadResult at kind) =
    (xid : ℕ) × (results : List ℕ) × IsReply message (record { xid = xid; body = success results }) × IsResultFault procedure results at kind
-- a reply that refuses
IsHeard procedure message (heard.Refused refusal) =
    (xid : ℕ) × (body : Body) × IsReply message (record { xid = xid; body = body }) × (refusal_in body ≡ Some refusal)
-- no reply of RPC, with the fault that the reader names
IsHeard procedure message (heard.NotRpc fault) = ReplyFails message fault

-- what the results of the procedure are
abbrev pub IsResultHeard : ℕ → List ℕ → Heard → Type 0
IsResultHeard procedure results (heard.Answer reply) = IsResult procedure results reply
IsResultHeard procedure results (heard.BadResult at kind) = IsResultFault procedure results at kind
IsResultHeard procedure results other = ⊥
