-- Believed.
-- The one spelling that is written of a call and of a reply, RFC 5531, section 9.
use Rattle.std.specs.Prelude.{ℕ, ◌<◌, ◌^◌, List, [], ◌++◌}
use Rattle.xdr_records.specs.Texts.{word_text, opaque_text}
use Rattle.rpc_reader.specs.Values.{Body}
use Rattle.rpc_reader.specs.Values.Body.{success, prog_unavail, prog_mismatch, proc_unavail, garbage_args, system_err, rpc_mismatch, auth_error}

-- RFC 5531, section 8.2: struct opaque_auth of AUTH_NONE, whose flavor is 0, with no bytes
unfoldable pub no_auth_text : List ℕ
no_auth_text = word_text 0 ++ opaque_text []

-- struct call_body up to the arguments: rpcvers 2, and a credential and a verifier with no bytes
unfoldable pub call_body_text : ℕ → ℕ → ℕ → List ℕ
call_body_text program version procedure = word_text 2 ++ (word_text program ++ (word_text version ++ (word_text procedure ++ (no_auth_text ++ no_auth_text))))

-- struct rpc_msg of CALL, up to the arguments
unfoldable pub call_head_text : ℕ → ℕ → ℕ → ℕ → List ℕ
call_head_text xid program version procedure = word_text xid ++ (word_text 0 ++ call_body_text program version procedure)

-- a head, and behind it the arguments as they are
unfoldable pub call_text : ℕ → ℕ → ℕ → ℕ → List ℕ → List ℕ
call_text xid program version procedure args = call_head_text xid program version procedure ++ args

-- mismatch_info: the lowest and the highest version
unfoldable pub versions_text : ℕ → ℕ → List ℕ
versions_text low high = word_text low ++ word_text high

-- struct accepted_reply up to the results: MSG_ACCEPTED, a verifier with no bytes, and what is behind them
unfoldable pub accepted_text : List ℕ → List ℕ
accepted_text status = word_text 0 ++ (no_auth_text ++ status)

-- union rejected_reply: MSG_DENIED, and what is behind it
unfoldable pub denied_text : List ℕ → List ℕ
denied_text status = word_text 1 ++ status

-- union reply_body up to the results: enum accept_stat or enum reject_stat, with their words
unfoldable pub reply_body_text : Body → List ℕ
reply_body_text (success results) = accepted_text (word_text 0)
reply_body_text prog_unavail = accepted_text (word_text 1)
reply_body_text (prog_mismatch low high) = accepted_text (word_text 2 ++ versions_text low high)
reply_body_text proc_unavail = accepted_text (word_text 3)
reply_body_text garbage_args = accepted_text (word_text 4)
reply_body_text system_err = accepted_text (word_text 5)
reply_body_text (rpc_mismatch low high) = denied_text (word_text 0 ++ versions_text low high)
reply_body_text (auth_error status) = denied_text (word_text 1 ++ word_text status)

-- struct rpc_msg of REPLY, up to the results
unfoldable pub reply_head_text : ℕ → Body → List ℕ
reply_head_text xid body = word_text xid ++ (word_text 1 ++ reply_body_text body)

-- the results, where there are any
unfoldable pub results_of : Body → List ℕ
results_of (success results) = results
results_of _ = []

-- a head, and behind it the results as they are
unfoldable pub reply_text : ℕ → Body → List ℕ
reply_text xid body = reply_head_text xid body ++ results_of body

-- the numbers that a reply says are words
unfoldable pub BodyFits : Body → Type 0
BodyFits (prog_mismatch low high) = (low < 2 ^ 32) × (high < 2 ^ 32)
BodyFits (rpc_mismatch low high) = (low < 2 ^ 32) × (high < 2 ^ 32)
BodyFits (auth_error status) = status < 2 ^ 32
BodyFits _ = Unit {0}
