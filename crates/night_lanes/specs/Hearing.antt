-- For the prover, and for callers.
-- What a record is that comes on a lane, for the calls that are open there.
use Rattle.std.specs.Prelude.{◌≡◌, ℕ, List, Some, slice_get, IfSome}
use Rattle.nfs3_types.specs.Procedures.{procedure_called}
use Rattle.nfs3_msgs.specs.Messages.{IsResult, IsResultFault}
use Rattle.rpc_reader.specs.Values.{Body}
use Rattle.rpc_reader.specs.Values.Body.{success}
use Rattle.rpc_reader.specs.Messages.{IsReply, ReplyFails}
use Rattle.night_lanes.specs.declared.hearing.Heard.{Heard}
use Rattle.night_lanes.specs.declared.hearing.Heard.TheVariants as heard
use Rattle.night_lanes.specs.declared.open_calls.OpenCall.{OpenCall}
use Rattle.night_lanes.specs.declared.open_calls.OpenCalls.{OpenCalls}
use Rattle.night_lanes.specs.declared.open_calls.Standing.TheVariants as standings
use Rattle.night_lanes.specs.Standing.{standing_of}
use Rattle.rpc_client.specs.Refusals.{refusal_in}

-- the message is a reply with this body, and its transaction number is that of the open call at the place
abbrev pub IsTo : OpenCalls → List ℕ → ℕ → Body → Type 0
IsTo pending message place body =
    (xid : ℕ) × IsReply message (record { xid = xid; body = body }) × (standing_of pending xid ≡ standings.Open place)

-- so its results are read, of the procedure that the open call at the place asked for
abbrev pub IsOfCall : OpenCalls → ℕ → (ℕ → Type 0) → Type 0
IsOfCall pending place Reads = IfSome (slice_get pending.calls.items place) (λ (call : OpenCall). Reads (procedure_called call.call))

abbrev pub IsHeard : OpenCalls → List ℕ → Heard → Type 0
-- a reply to an open call, with a result of its procedure
IsHeard pending message (heard.Answer place reply) =
    (results : List ℕ) × IsTo pending message place (success results) × IsOfCall pending place (λ procedure. IsResult procedure results reply)
-- a reply to an open call, with results that are none of its procedure: the first item at fault
IsHeard pending message (heard.BadResult place at kind) =
    (results : List ℕ) × IsTo pending message place (success results) × IsOfCall pending place (λ procedure. IsResultFault procedure results at kind)
-- a reply to an open call, which is refused
IsHeard pending message (heard.Refused place refusal) =
    (body : Body) × IsTo pending message place body × (refusal_in body ≡ Some refusal)
-- a reply to a call that was sent, and isn't open
IsHeard pending message (heard.SecondReply xid) =
    (body : Body) × IsReply message (record { xid = xid; body = body }) × (standing_of pending xid ≡ standings.Answered)
-- a reply to no call that was sent
IsHeard pending message (heard.Unknown xid) =
    (body : Body) × IsReply message (record { xid = xid; body = body }) × (standing_of pending xid ≡ standings.Unknown)
-- no reply of RPC, with the fault that the reader names
IsHeard pending message (heard.NoReply fault) = ReplyFails message fault

-- ---- what a private function says to the prover

-- what the results of the procedure are, at the place of its call
abbrev pub IsResultHeard : ℕ → ℕ → List ℕ → Heard → Type 0
IsResultHeard place procedure results (heard.Answer at reply) = (at ≡ place) × IsResult procedure results reply
IsResultHeard place procedure results (heard.BadResult at item kind) = (at ≡ place) × IsResultFault procedure results item kind
IsResultHeard place procedure results other = ⊥
