-- For the prover.
-- What private functions say to the prover.
use Rattle.std.specs.Prelude.{◌==◌, not, nat_lt, ℕ, false, List, [], if◌then◌else◌, Option, Some, None, Result, Ok, Err}
use Rattle.xdr_records.specs.declared.fault.XdrFault.{XdrFault}
use Rattle.xdr_records.specs.Unread.{Unread, whole}
use Rattle.xdr_records.specs.Grammar.{Grammar}
use Rattle.xdr_records.specs.Items.{end_at}
use Rattle.xdr_records.specs.Reading.{bound}
use Rattle.xdr_records.specs.Kinds.{kind_reading}
use Rattle.xdr_records.specs.Texts.{word_text, flag_text}
use Rattle.rpc_reader.specs.Values.{CallValue, Body}
use Rattle.rpc_reader.specs.Values.Body.{success, prog_mismatch, proc_unavail, garbage_args}
use Rattle.server_requests.specs.declared.mounting.results.Results.{Results}
use Rattle.server_requests.specs.declared.mounting.results.Results.TheVariants as results
use Rattle.server_requests.specs.declared.mounting.answer.Answer.{Answer}
use Rattle.server_requests.specs.declared.mounting.answer.Answer.TheVariants as answers
use Rattle.server_requests.specs.Results.{root_text, exports_text, rights_text, space_text, transfers_text, names_text}
use Rattle.server_requests.specs.Mounting.{asks_for_limits, mount_procedure, nfs_procedure}

abbrev pub results_text : Results → List ℕ
results_text results.Nothing = []
results_text results.Root = root_text
results_text results.NoSuchPath = word_text 2
results_text results.NoMounts = flag_text false
results_text results.Exports = exports_text
results_text (results.Rights rights) = rights_text rights
results_text results.Space = space_text
results_text results.Transfers = transfers_text
results_text results.Names = names_text

abbrev pub body_of : Answer → Body
body_of answers.OtherVersion = prog_mismatch 3 3
body_of answers.NoProcedure = proc_unavail
body_of answers.BadArguments = garbage_args
body_of (answers.Done results) = success (results_text results)

-- ---- the answers, as they are computed

abbrev pub ended : List ℕ × Unread → Result (List ℕ) XdrFault
ended read = bound (end_at read.1) (λ _. Ok read.0)

-- the results of a procedure whose arguments are all of the bytes
abbrev pub results_of : Grammar XdrFault (List ℕ) → List ℕ → Result (List ℕ) XdrFault
results_of procedure args = bound (kind_reading (λ fault. fault) procedure (whole args)) ended

abbrev pub text_of : Result Results XdrFault → Result (List ℕ) XdrFault
text_of (Ok results) = Ok (results_text results)
text_of (Err fault) = Err fault

abbrev pub body_with : Result (List ℕ) XdrFault → Body
body_with (Ok results) = success results
body_with (Err fault) = garbage_args

abbrev pub mount_body : CallValue → Body
mount_body head =
    if not (head.version == 3) then prog_mismatch 3 3
    else if nat_lt 5 head.procedure then proc_unavail
    else body_with (results_of (mount_procedure head.procedure) head.args)

abbrev pub nfs_body : CallValue → Body
nfs_body head = body_with (results_of (nfs_procedure head.procedure) head.args)

abbrev pub body_ahead : CallValue → Option Body
body_ahead head =
    if head.program == 100005 then Some (mount_body head)
    else if asks_for_limits head then Some (nfs_body head)
    else None
