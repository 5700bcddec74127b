-- For the prover.
-- What private functions say to the prover.
use Rattle.std.specs.Prelude.{◌≡◌, ◌==◌, ℕ, Bool, true, List, [], length, Option, Some, None, option_and_then}
use Rattle.rpc_reader.specs.Values.{CallValue, Body}
use Rattle.rpc_reader.specs.Values.Body.{success, prog_unavail, prog_mismatch, proc_unavail, garbage_args, auth_error}
use Rattle.nfs3_types.specs.declared.calls.NfsCall.{NfsCall}
use Rattle.nfs3_types.specs.declared.calls.NfsCall.TheVariants as calls
use Rattle.nfs3_types.specs.Numbers.{status_number}
use Rattle.rpc_reader.specs.Texts.{reply_text}
use Rattle.nfs3_msgs.specs.Messages.{IsArguments}
use Rattle.nfs_history.specs.Outside.{outside}
use Rattle.server_requests.specs.declared.plain.Plain.{Plain}
use Rattle.server_requests.specs.declared.plain.Plain.TheVariants as plain
use Rattle.server_requests.specs.declared.request.Handled.{Handled}
use Rattle.server_requests.specs.declared.request.Handled.TheVariants as handled
use Rattle.server_requests.specs.declared.request.Request.{Request}
use Rattle.server_requests.specs.declared.request.Request.TheVariants as requests
use Rattle.server_requests.specs.Handling.{failure_with, answer_outside, IsAnsweredBy, IsAnsweredAlone, IsRecorded}

-- what a plain answer says
abbrev pub body_of : Plain → Body
body_of plain.NoProgram = prog_unavail
body_of plain.OtherVersion = prog_mismatch 3 3
body_of plain.SealedCredential = auth_error 1
body_of plain.NoProcedure = proc_unavail
body_of plain.Nothing = success []
body_of (plain.Failed status words) = failure_with (status_number status) words
body_of plain.BadArguments = garbage_args

-- what becomes of a procedure's arguments
abbrev pub AreHandled : ℕ → List ℕ → Handled → Type 0
AreHandled procedure arguments (handled.Answer answer) = IsAnsweredBy procedure arguments (body_of answer)
AreHandled procedure arguments (handled.Record call) = IsArguments procedure arguments call × (outside call None ≡ None)

abbrev pub IsHandled : NfsCall → Handled → Type 0
IsHandled call (handled.Answer answer) = option_and_then answer_outside (outside call None) ≡ Some (body_of answer)
IsHandled call (handled.Record kept) = (kept ≡ call) × (outside call None ≡ None)

-- what becomes of the call with this head
abbrev pub IsHandledAs : CallValue → Handled → Type 0
IsHandledAs head (handled.Answer answer) = IsAnsweredAlone head (body_of answer)
IsHandledAs head (handled.Record call) = IsRecorded head call

-- what a call with this head is to the server
abbrev pub IsRequestOf : CallValue → Request → Type 0
IsRequestOf head requests.Unreadable = ⊥
IsRequestOf head (requests.Answered reply) = (body : Body) × IsAnsweredAlone head body × (reply.items ≡ reply_text head.xid body)
IsRequestOf head (requests.Recorded call) = IsRecorded head call

-- a WRITE counts its data
abbrev pub CountsItsData : NfsCall → Bool → Type 0
CountsItsData (calls.Write write) counts = counts ≡ (write.count == length write.bytes)
CountsItsData call counts = counts ≡ true
