-- Believed.
-- The layout of a reply's head, RFC 5531, section 9.
use Rattle.std.specs.Prelude.{ℕ, zero, suc, Result, Ok, Err}
use Rattle.xdr_records.specs.Grammar.{Grammar, ◌>>=◌}
use Rattle.xdr_records.specs.Grammar.Grammar.{one_word, named, nothing}
use Rattle.rpc_reader.specs.declared.fault.RpcFault.{RpcFault}
use Rattle.rpc_reader.specs.declared.fault.RpcFault.TheVariants.{NotReply, BadEnum}
use Rattle.rpc_reader.specs.Values.{Body}
use Rattle.rpc_reader.specs.Values.Body.{prog_unavail, prog_mismatch, proc_unavail, garbage_args, system_err, rpc_mismatch, auth_error}
use Rattle.rpc_reader.specs.Heads.{auth}

-- enum msg_type, of a message that is to be a reply
abbrev pub reply_type : ℕ → Result (Unit {0}) RpcFault
reply_type zero = Err NotReply
reply_type (suc zero) = Ok tt
reply_type (suc (suc n)) = Err BadEnum

-- enum reply_stat
pub data ReplyStatus : Type 0 where
  accepted : ReplyStatus
  denied : ReplyStatus

abbrev pub reply_status : ℕ → Result ReplyStatus RpcFault
reply_status zero = Ok accepted
reply_status (suc zero) = Ok denied
reply_status (suc (suc n)) = Err BadEnum

-- the results follow, or nothing does
pub data Status : Type 0 where
  results_follow : Status
  final : Body → Status

-- enum accept_stat
pub data AcceptStatus : Type 0 where
  accepted_as : Status → AcceptStatus
  versions_follow : AcceptStatus

abbrev pub accept_status : ℕ → Result AcceptStatus RpcFault
accept_status zero = Ok (accepted_as results_follow)
accept_status (suc zero) = Ok (accepted_as (final prog_unavail))
accept_status (suc (suc zero)) = Ok versions_follow
accept_status (suc (suc (suc zero))) = Ok (accepted_as (final proc_unavail))
accept_status (suc (suc (suc (suc zero)))) = Ok (accepted_as (final garbage_args))
accept_status (suc (suc (suc (suc (suc zero))))) = Ok (accepted_as (final system_err))
accept_status (suc (suc (suc (suc (suc (suc n)))))) = Err BadEnum

-- mismatch_info: the lowest and the highest version
unfoldable pub versions : Grammar RpcFault (ℕ × ℕ)
versions = do
  low ← one_word
  high ← one_word
  nothing (low, high)

abbrev pub behind_accept_status : AcceptStatus → Grammar RpcFault Status
behind_accept_status (accepted_as status) = nothing status
behind_accept_status versions_follow = do
  range ← versions
  nothing (final (prog_mismatch range.0 range.1))

-- struct accepted_reply, up to the results
unfoldable pub accepted_reply : Grammar RpcFault Status
accepted_reply = do
  verifier ← auth
  status ← named accept_status
  behind_accept_status status

-- enum reject_stat
pub data RejectStatus : Type 0 where
  other_version : RejectStatus
  not_authentic : RejectStatus

abbrev pub reject_status : ℕ → Result RejectStatus RpcFault
reject_status zero = Ok other_version
reject_status (suc zero) = Ok not_authentic
reject_status (suc (suc n)) = Err BadEnum

abbrev pub behind_reject_status : RejectStatus → Grammar RpcFault Status
behind_reject_status other_version = do
  range ← versions
  nothing (final (rpc_mismatch range.0 range.1))
behind_reject_status not_authentic = do
  status ← one_word
  nothing (final (auth_error status))

-- union rejected_reply
unfoldable pub rejected_reply : Grammar RpcFault Status
rejected_reply = do
  status ← named reject_status
  behind_reject_status status

abbrev pub behind_reply_status : ReplyStatus → Grammar RpcFault Status
behind_reply_status accepted = accepted_reply
behind_reply_status denied = rejected_reply

-- union reply_body, up to the results
unfoldable pub reply_body : Grammar RpcFault Status
reply_body = do
  status ← named reply_status
  behind_reply_status status

-- what stands before the results of a reply
pub record ReplyStart : Type 0 where
  pub xid : ℕ
  pub status : Status

-- struct rpc_msg with union reply_body, up to the results
unfoldable pub reply_head : Grammar RpcFault ReplyStart
reply_head = do
  xid ← one_word
  type ← named reply_type
  status ← reply_body
  nothing (record { xid = xid; status = status })
