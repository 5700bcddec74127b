-- For the prover, and for callers.
-- Why RPC refused a call: RFC 5531, section 9, enum accept_stat, reject_stat and auth_stat.
use Rattle.std.specs.Prelude.{Bool, false, ◌==◌, Option, Some, None}
use Rattle.rpc_reader.specs.Values.{Body}
use Rattle.rpc_reader.specs.Values.Body.{success, prog_unavail, prog_mismatch, proc_unavail, garbage_args, system_err, rpc_mismatch, auth_error}
use Rattle.rpc_client.specs.declared.refusal.Refusal.{Refusal}
use Rattle.rpc_client.specs.declared.refusal.Refusal.TheVariants as refusals

abbrev pub refusal_in : Body → Option Refusal
refusal_in (success results) = None
refusal_in prog_unavail = Some refusals.ProgramUnavailable
refusal_in (prog_mismatch low high) = Some (refusals.ProgramMismatch low high)
refusal_in proc_unavail = Some refusals.ProcedureUnavailable
refusal_in garbage_args = Some refusals.GarbageArguments
refusal_in system_err = Some refusals.SystemError
refusal_in (rpc_mismatch low high) = Some (refusals.RpcMismatch low high)
refusal_in (auth_error status) = Some (refusals.AuthError status)

-- AUTH_TOOWEAK is 5
abbrev pub is_too_weak : Refusal → Bool
is_too_weak (refusals.AuthError status) = status == 5
is_too_weak refusal = false
