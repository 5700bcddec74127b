-- What is written of a call and of a reply spells it.
use Rattle.std.proofs.Common.{◌≡◌, ℕ, ◌<◌, ◌^◌, List, [], ◌++◌, refl, sym, lit<, lit≤}
use Rattle.std.proofs.lemmas.List.{append-nil}
use Rattle.xdr_records.specs.Spelling.{Spells, Joined}
use Rattle.xdr_records.specs.Texts.{word_text, opaque_text}
use Rattle.xdr_records.proofs.Written.{word_spelled, opaque_spelled}
use Rattle.rpc_reader.specs.Values.{CallValue, Body}
use Rattle.rpc_reader.specs.Values.Body.{success, prog_unavail, prog_mismatch, proc_unavail, garbage_args, system_err, rpc_mismatch, auth_error}
use Rattle.rpc_reader.specs.Heads.{auth, call_head}
use Rattle.rpc_reader.specs.ReplyHeads.{Status, versions, accepted_reply, rejected_reply, reply_body, ReplyStart, reply_head}
use Rattle.rpc_reader.specs.ReplyHeads.Status.{results_follow, final}
use Rattle.rpc_reader.specs.ReplyHeads.ReplyStatus.{accepted, denied}
use Rattle.rpc_reader.specs.ReplyHeads.AcceptStatus.{accepted_as, versions_follow}
use Rattle.rpc_reader.specs.ReplyHeads.RejectStatus.{other_version, not_authentic}
use Rattle.rpc_reader.specs.Messages.{call_start, IsCall, IsEnding, IsReply}
use Rattle.rpc_reader.specs.Texts.{no_auth_text, call_body_text, call_head_text, call_text, versions_text, accepted_text, denied_text, reply_body_text, reply_head_text, results_of, reply_text, BodyFits}

-- one item, and others behind it
joined : {First Others : List ℕ → Type 0} (front back : List ℕ) → First front → Others back → Joined First Others (front ++ back)
joined front back first others = record { front = front; back = back; parts = refl; first = first; others = others }

-- the last item, behind which the value stands
last : {A : Type 0} {First : List ℕ → Type 0} (x : A) (text : List ℕ) → First text → Joined First (λ back. (back ≡ []) × (x ≡ x)) text
last x text first = record { front = text; back = []; parts = sym (append-nil text); first = first; others = (refl, refl) }

no_auth_spelled : Spells auth no_auth_text 0
unfolding auth no_auth_text
no_auth_spelled = (0, joined (word_text 0) (opaque_text []) (word_spelled 0 (lit< tt)) ([], last 0 (opaque_text []) (opaque_spelled 400 [] (lit< tt) (lit≤ tt))))

-- ---- a call

-- a call with an empty credential and an empty verifier
abbrev called : ℕ → ℕ → ℕ → ℕ → List ℕ → CallValue
called xid program version procedure args = record { xid = xid; program = program; version = version; procedure = procedure; flavor = 0; args = args }

call_head_spelled : (xid program version procedure : ℕ) → xid < 2 ^ 32 → program < 2 ^ 32 → version < 2 ^ 32 → procedure < 2 ^ 32 → Spells call_head (call_head_text xid program version procedure) (call_start (called xid program version procedure []))
unfolding call_head call_head_text call_body_text
call_head_spelled xid program version procedure xid_fits program_fits version_fits procedure_fits = (
  xid,
  joined (word_text xid) (word_text 0 ++ (word_text 2 ++ (word_text program ++ (word_text version ++ (word_text procedure ++ (no_auth_text ++ no_auth_text)))))) (word_spelled xid xid_fits) (
    tt,
    joined (word_text 0) (word_text 2 ++ (word_text program ++ (word_text version ++ (word_text procedure ++ (no_auth_text ++ no_auth_text))))) (0, word_spelled 0 (lit< tt), refl) (
      tt,
      joined (word_text 2) (word_text program ++ (word_text version ++ (word_text procedure ++ (no_auth_text ++ no_auth_text)))) (2, word_spelled 2 (lit< tt), refl) (
        program,
        joined (word_text program) (word_text version ++ (word_text procedure ++ (no_auth_text ++ no_auth_text))) (word_spelled program program_fits) (
          version,
          joined (word_text version) (word_text procedure ++ (no_auth_text ++ no_auth_text)) (word_spelled version version_fits) (
            procedure,
            joined (word_text procedure) (no_auth_text ++ no_auth_text) (word_spelled procedure procedure_fits) (
              0,
              joined no_auth_text no_auth_text no_auth_spelled
                  (0, last (call_start (called xid program version procedure [])) no_auth_text no_auth_spelled),
            ),
          ),
        ),
      ),
    ),
  ),
)

pub call_spelled : (xid program version procedure : ℕ) (args : List ℕ) → xid < 2 ^ 32 → program < 2 ^ 32 → version < 2 ^ 32 → procedure < 2 ^ 32 → IsCall (call_text xid program version procedure args) (record { xid = xid; program = program; version = version; procedure = procedure; flavor = 0; args = args })
unfolding call_text
call_spelled xid program version procedure args xid_fits program_fits version_fits procedure_fits =
    joined (call_head_text xid program version procedure) args (call_head_spelled xid program version procedure xid_fits program_fits version_fits procedure_fits) refl

-- ---- a reply

-- whether results follow what is written
abbrev written_status : Body → Status
written_status (success results) = results_follow
written_status prog_unavail = final prog_unavail
written_status (prog_mismatch low high) = final (prog_mismatch low high)
written_status proc_unavail = final proc_unavail
written_status garbage_args = final garbage_args
written_status system_err = final system_err
written_status (rpc_mismatch low high) = final (rpc_mismatch low high)
written_status (auth_error status) = final (auth_error status)

versions_spelled : (low high : ℕ) → low < 2 ^ 32 → high < 2 ^ 32 → Spells versions (versions_text low high) (low, high)
unfolding versions versions_text
versions_spelled low high low_fits high_fits =
    (low, joined (word_text low) (word_text high) (word_spelled low low_fits) (high, last (low, high) (word_text high) (word_spelled high high_fits)))

-- behind MSG_ACCEPTED and a verifier
accepted_spelled : (status : Status) (text : List ℕ) → Spells accepted_reply (no_auth_text ++ text) status → Spells reply_body (accepted_text text) status
unfolding reply_body accepted_text
accepted_spelled status text spelled =
    (accepted, joined (word_text 0) (no_auth_text ++ text) (0, word_spelled 0 (lit< tt), refl) spelled)

-- behind MSG_DENIED
denied_spelled : (status : Status) (text : List ℕ) → Spells rejected_reply text status → Spells reply_body (denied_text text) status
unfolding reply_body denied_text
denied_spelled status text spelled =
    (denied, joined (word_text 1) text (1, word_spelled 1 (lit< tt), refl) spelled)

success_spelled : Spells accepted_reply (no_auth_text ++ word_text 0) results_follow
unfolding accepted_reply
success_spelled =
    (0, joined no_auth_text (word_text 0) no_auth_spelled (accepted_as results_follow, last results_follow (word_text 0) (0, word_spelled 0 (lit< tt), refl)))

prog_unavail_spelled : Spells accepted_reply (no_auth_text ++ word_text 1) (final prog_unavail)
unfolding accepted_reply
prog_unavail_spelled =
    (0, joined no_auth_text (word_text 1) no_auth_spelled (accepted_as (final prog_unavail), last (final prog_unavail) (word_text 1) (1, word_spelled 1 (lit< tt), refl)))

prog_mismatch_spelled : (low high : ℕ) → low < 2 ^ 32 → high < 2 ^ 32 → Spells accepted_reply (no_auth_text ++ (word_text 2 ++ versions_text low high)) (final (prog_mismatch low high))
unfolding accepted_reply
prog_mismatch_spelled low high low_fits high_fits = (
  0,
  joined no_auth_text (word_text 2 ++ versions_text low high) no_auth_spelled (
    versions_follow,
    joined (word_text 2) (versions_text low high) (2, word_spelled 2 (lit< tt), refl)
        ((low, high), last (final (prog_mismatch low high)) (versions_text low high) (versions_spelled low high low_fits high_fits)),
  ),
)

proc_unavail_spelled : Spells accepted_reply (no_auth_text ++ word_text 3) (final proc_unavail)
unfolding accepted_reply
proc_unavail_spelled =
    (0, joined no_auth_text (word_text 3) no_auth_spelled (accepted_as (final proc_unavail), last (final proc_unavail) (word_text 3) (3, word_spelled 3 (lit< tt), refl)))

garbage_args_spelled : Spells accepted_reply (no_auth_text ++ word_text 4) (final garbage_args)
unfolding accepted_reply
garbage_args_spelled =
    (0, joined no_auth_text (word_text 4) no_auth_spelled (accepted_as (final garbage_args), last (final garbage_args) (word_text 4) (4, word_spelled 4 (lit< tt), refl)))

system_err_spelled : Spells accepted_reply (no_auth_text ++ word_text 5) (final system_err)
unfolding accepted_reply
system_err_spelled =
    (0, joined no_auth_text (word_text 5) no_auth_spelled (accepted_as (final system_err), last (final system_err) (word_text 5) (5, word_spelled 5 (lit< tt), refl)))

rpc_mismatch_spelled : (low high : ℕ) → low < 2 ^ 32 → high < 2 ^ 32 → Spells rejected_reply (word_text 0 ++ versions_text low high) (final (rpc_mismatch low high))
unfolding rejected_reply
rpc_mismatch_spelled low high low_fits high_fits = (
  other_version,
  joined (word_text 0) (versions_text low high) (0, word_spelled 0 (lit< tt), refl)
      ((low, high), last (final (rpc_mismatch low high)) (versions_text low high) (versions_spelled low high low_fits high_fits)),
)

auth_error_spelled : (status : ℕ) → status < 2 ^ 32 → Spells rejected_reply (word_text 1 ++ word_text status) (final (auth_error status))
unfolding rejected_reply
auth_error_spelled status fits = (
  not_authentic,
  joined (word_text 1) (word_text status) (1, word_spelled 1 (lit< tt), refl)
      (status, last (final (auth_error status)) (word_text status) (word_spelled status fits)),
)

reply_body_spelled : (body : Body) → BodyFits body → Spells reply_body (reply_body_text body) (written_status body)
unfolding reply_body_text BodyFits
reply_body_spelled (success results) fits = accepted_spelled results_follow (word_text 0) success_spelled
reply_body_spelled prog_unavail fits = accepted_spelled (final prog_unavail) (word_text 1) prog_unavail_spelled
reply_body_spelled (prog_mismatch low high) fits =
    accepted_spelled (final (prog_mismatch low high)) (word_text 2 ++ versions_text low high) (prog_mismatch_spelled low high fits.0 fits.1)
reply_body_spelled proc_unavail fits = accepted_spelled (final proc_unavail) (word_text 3) proc_unavail_spelled
reply_body_spelled garbage_args fits = accepted_spelled (final garbage_args) (word_text 4) garbage_args_spelled
reply_body_spelled system_err fits = accepted_spelled (final system_err) (word_text 5) system_err_spelled
reply_body_spelled (rpc_mismatch low high) fits =
    denied_spelled (final (rpc_mismatch low high)) (word_text 0 ++ versions_text low high) (rpc_mismatch_spelled low high fits.0 fits.1)
reply_body_spelled (auth_error status) fits =
    denied_spelled (final (auth_error status)) (word_text 1 ++ word_text status) (auth_error_spelled status fits)

reply_head_spelled : (xid : ℕ) (body : Body) → xid < 2 ^ 32 → BodyFits body → Spells reply_head (reply_head_text xid body) (record { xid = xid; status = written_status body })
unfolding reply_head reply_head_text
reply_head_spelled xid body xid_fits fits =
    let start : ReplyStart = record { xid = xid; status = written_status body } in (
      xid,
      joined (word_text xid) (word_text 1 ++ reply_body_text body) (word_spelled xid xid_fits) (
        tt,
        joined (word_text 1) (reply_body_text body) (1, word_spelled 1 (lit< tt), refl)
            (written_status body, last start (reply_body_text body) (reply_body_spelled body fits)),
      ),
    )

-- results stand behind SUCCESS, and nothing behind another status
ending_written : (body : Body) → IsEnding (written_status body) (results_of body) body
unfolding results_of
ending_written (success results) = refl
ending_written prog_unavail = (refl, refl)
ending_written (prog_mismatch low high) = (refl, refl)
ending_written proc_unavail = (refl, refl)
ending_written garbage_args = (refl, refl)
ending_written system_err = (refl, refl)
ending_written (rpc_mismatch low high) = (refl, refl)
ending_written (auth_error status) = (refl, refl)

pub reply_spelled : (xid : ℕ) (body : Body) → xid < 2 ^ 32 → BodyFits body → IsReply (reply_text xid body) (record { xid = xid; body = body })
unfolding reply_text
reply_spelled xid body xid_fits fits =
    (written_status body, joined (reply_head_text xid body) (results_of body) (reply_head_spelled xid body xid_fits fits) (ending_written body))
