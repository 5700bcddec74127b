-- Believed.
-- What a journal server does with a message. It records each call of a procedure that is judged, with arguments that a history takes
-- whatever is answered, and answers every other call by itself (RFC 5531, section 9; RFC 1813, section 2.6, for the statuses). That it
-- serves no LINK, no MKNOD, and nothing that tells of rights and limits is this project's own.
use Rattle.std.specs.Prelude.{◌≡◌, ◌⊎◌, ◌==◌, ◌||◌, ◌*◌, ◌++◌, ◌≤◌, not, nat_lt, ℕ, List, [], length, replicate, if◌then◌else◌, Option, Some, None, MatchOption, option_and_then}
use Rattle.xdr_records.specs.Record.{record_limit}
use Rattle.xdr_records.specs.Texts.{word_text}
use Rattle.rpc_reader.specs.Values.{CallValue, Body, sealed_flavor}
use Rattle.rpc_reader.specs.Values.Body.{success, prog_unavail, prog_mismatch, proc_unavail, garbage_args, auth_error}
use Rattle.rpc_reader.specs.Messages.{IsCall}
use Rattle.rpc_reader.specs.Texts.{reply_text}
use Rattle.nfs3_types.specs.declared.calls.NfsCall.{NfsCall}
use Rattle.nfs3_types.specs.declared.procedures.Procedure.TheVariants.{Null, Access, MkNod, Link, FsStat, FsInfo, PathConf, Commit}
use Rattle.nfs3_types.specs.declared.status.Failure.TheVariants as statuses
use Rattle.nfs3_types.specs.Numbers.{status_number}
use Rattle.nfs3_types.specs.Procedures.{nfs_program, nfs_version, number}
use Rattle.nfs3_msgs.specs.Messages.{IsArguments}
use Rattle.nfs_history.specs.declared.fault.Which.{Which}
use Rattle.nfs_history.specs.declared.fault.Which.TheVariants as which
use Rattle.nfs_history.specs.Outside.{outside}
use Rattle.server_requests.specs.declared.request.Request.{Request}
use Rattle.server_requests.specs.declared.request.Request.TheVariants as requests

-- a status with so many zero words behind it: each attribute that could stand there is absent
abbrev pub failure_with : ℕ → ℕ → Body
failure_with status words = success (word_text status ++ replicate (4 * words) 0)

-- NFS3ERR_NOTSUPP
abbrev pub not_supported : ℕ → Body
not_supported words = failure_with (status_number statuses.NotSupported) words

-- NULL does nothing. LINK and MKNOD aren't served, nor ACCESS, FSSTAT, FSINFO and PATHCONF, and there is no procedure above COMMIT
abbrev pub answer_of_procedure : ℕ → Option Body
answer_of_procedure procedure =
    if nat_lt (number Commit) procedure then Some proc_unavail
    else if procedure == number Null then Some (success [])
    else if procedure == number Access || procedure == number FsStat || procedure == number FsInfo || procedure == number PathConf then Some (not_supported 1)
    else if procedure == number MkNod then Some (not_supported 2)
    else if procedure == number Link then Some (not_supported 3)
    else None

-- another program or version, or a credential of RPCSEC_GSS (AUTH_BADCRED), comes first
abbrev pub answer_ahead : CallValue → Option Body
answer_ahead head =
    if not (head.program == nfs_program) then Some prog_unavail
    else if not (head.version == nfs_version) then Some (prog_mismatch nfs_version nfs_version)
    else if head.flavor == sealed_flavor then Some (auth_error 1)
    else answer_of_procedure head.procedure

-- a count that isn't that of the data (NFS3ERR_INVAL), and a file over the limit (NFS3ERR_FBIG)
abbrev pub answer_outside : Which → Option Body
answer_outside which.CountDiffers = Some (failure_with (status_number statuses.Invalid) 2)
answer_outside which.TooFar = Some (failure_with (status_number statuses.FileTooLarge) 2)
answer_outside other = None

-- the answer to arguments that can't be read, or are those of a call that a history mightn't take
abbrev pub IsAnsweredBy : ℕ → List ℕ → Body → Type 0
IsAnsweredBy procedure arguments body =
    ((body ≡ garbage_args) × ((call : NfsCall) → ¬ IsArguments procedure arguments call))
    ⊎ ((call : NfsCall) × IsArguments procedure arguments call × (option_and_then answer_outside (outside call None) ≡ Some body))

-- the message is a call's, in a record within its limit
pub record IsCallMessage (message : List ℕ) (head : CallValue) : Type 0 where
  pub within : length message ≤ record_limit
  pub is_call : IsCall message head

-- it is answered so, and isn't recorded
abbrev pub IsAnsweredAlone : CallValue → Body → Type 0
IsAnsweredAlone head body = MatchOption (answer_ahead head) (IsAnsweredBy head.procedure head.args body) (λ ahead. body ≡ ahead)

-- it is a call that is recorded
pub record IsRecorded (head : CallValue) (call : NfsCall) : Type 0 where
  pub served : answer_ahead head ≡ None
  pub arguments : IsArguments head.procedure head.args call
  pub inside : outside call None ≡ None

-- ---- for the prover, and for callers

-- what a message is to the server. No message is two of these
abbrev pub IsRequest : List ℕ → Request → Type 0
IsRequest message requests.Unreadable = (head : CallValue) → ¬ IsCallMessage message head
IsRequest message (requests.Answered reply) =
    (head : CallValue) × (body : Body) × IsCallMessage message head × IsAnsweredAlone head body × (reply.items ≡ reply_text head.xid body)
IsRequest message (requests.Recorded call) = (head : CallValue) × IsCallMessage message head × IsRecorded head call
