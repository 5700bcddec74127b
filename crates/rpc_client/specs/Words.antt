-- For the prover, and for callers.
-- The words that are printed of a refusal: its name of RFC 5531, section 9, and its numbers.
use Rattle.std.specs.Prelude.{ℕ, List, ◌++◌, codes, decimal}
use Rattle.rpc_client.specs.declared.refusal.Refusal.{Refusal}
use Rattle.rpc_client.specs.declared.refusal.Refusal.TheVariants as refusals

abbrev pub refusal_words : Refusal → List ℕ
refusal_words refusals.ProgramUnavailable = codes "PROG_UNAVAIL"
refusal_words (refusals.ProgramMismatch low high) = codes "PROG_MISMATCH, versions " ++ (decimal low ++ (codes " to " ++ decimal high))
refusal_words refusals.ProcedureUnavailable = codes "PROC_UNAVAIL"
refusal_words refusals.GarbageArguments = codes "GARBAGE_ARGS"
refusal_words refusals.SystemError = codes "SYSTEM_ERR"
refusal_words (refusals.RpcMismatch low high) = codes "RPC_MISMATCH, versions " ++ (decimal low ++ (codes " to " ++ decimal high))
refusal_words (refusals.AuthError reason) = codes "AUTH_ERROR, reason " ++ decimal reason
