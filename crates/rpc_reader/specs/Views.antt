-- For the prover, and for callers.
-- What is read, without where it lies in memory.
use Rattle.std.specs.Prelude.{◌≡◌, Result, Ok}
use Rattle.xdr_records.specs.Unread.{Unread}
use Rattle.xdr_records.specs.Items.{end_at}
use Rattle.xdr_records.specs.Reading.{bound}
use Rattle.xdr_records.specs.Kinds.{item_kind, kind_reading}
use Rattle.rpc_reader.specs.declared.fault.RpcFault.{RpcFault}
use Rattle.rpc_reader.specs.declared.call.CallHead.{CallHead}
use Rattle.rpc_reader.specs.declared.reply.ReplyBody.{ReplyBody}
use Rattle.rpc_reader.specs.declared.reply.ReplyBody.TheVariants as read
use Rattle.rpc_reader.specs.declared.reply.ReplyHead.{ReplyHead}
use Rattle.rpc_reader.specs.Values.{CallValue, Body, ReplyValue}
use Rattle.rpc_reader.specs.Values.Body.{success, prog_unavail, prog_mismatch, proc_unavail, garbage_args, system_err, rpc_mismatch, auth_error}
use Rattle.rpc_reader.specs.Heads.{kind_of}
use Rattle.rpc_reader.specs.ReplyHeads.{Status, ReplyStart, reply_head}
use Rattle.rpc_reader.specs.ReplyHeads.Status.{results_follow, final}

abbrev pub call_value : CallHead → CallValue
call_value call = record { xid = call.xid; program = call.program; version = call.version; procedure = call.procedure; flavor = call.flavor; args = call.args.now }

abbrev pub body_value : ReplyBody → Body
body_value (read.Success results) = success results.now
body_value read.ProgUnavail = prog_unavail
body_value (read.ProgMismatch low high) = prog_mismatch low high
body_value read.ProcUnavail = proc_unavail
body_value read.GarbageArgs = garbage_args
body_value read.SystemErr = system_err
body_value (read.RpcMismatch low high) = rpc_mismatch low high
body_value (read.AuthError status) = auth_error status

abbrev pub reply_value : ReplyHead → ReplyValue
reply_value reply = record { xid = reply.xid; body = body_value reply.body }

-- what is read of a reply's body before its results
abbrev pub status_of : ReplyBody → Status
status_of (read.Success results) = results_follow
status_of read.ProgUnavail = final prog_unavail
status_of (read.ProgMismatch low high) = final (prog_mismatch low high)
status_of read.ProcUnavail = final proc_unavail
status_of read.GarbageArgs = final garbage_args
status_of read.SystemErr = final system_err
status_of (read.RpcMismatch low high) = final (rpc_mismatch low high)
status_of (read.AuthError status) = final (auth_error status)

-- the results are what is left
abbrev pub HoldsResults : Unread → ReplyBody → Type 0
HoldsResults unread (read.Success results) = results.now ≡ unread.rest
HoldsResults unread _ = Unit {0}

abbrev pub start_of : ReplyHead → ReplyStart
start_of reply = record { xid = reply.xid; status = status_of reply.body }

-- nothing may stand behind a head that ends the reply
abbrev pub ending_at : Status → Unread → Result (Unit {0}) RpcFault
ending_at results_follow unread = Ok tt
ending_at (final body) unread = item_kind kind_of (end_at unread)

-- a head, and behind it the results, or nothing
abbrev pub ended : ReplyStart × Unread → Result (ReplyStart × Unread) RpcFault
ended start = bound (ending_at start.0.status start.1) (λ _. Ok start)

abbrev pub reply_from : Unread → Result (ReplyStart × Unread) RpcFault
reply_from unread = bound (kind_reading kind_of reply_head unread) ended
