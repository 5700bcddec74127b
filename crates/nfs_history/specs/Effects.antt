-- Believed.
-- Which calls may have an effect, by their heads and replies (RFC 5531, section 9, and RFC 1813, section 3.3).
use Rattle.std.specs.Prelude.{◌≡◌, ◌==◌, ◌&&◌, ◌||◌, not, nat_le, ℕ, Bool, true, false, if◌then◌else◌, List, length, Option, Some, None}
use Rattle.xdr_records.specs.Items.{word_of}
use Rattle.nfs3_types.specs.declared.procedures.Procedure.TheVariants.{MkNod, Link}
use Rattle.nfs3_types.specs.Procedures.{nfs_program, nfs_version, number, is_judged}
use Rattle.rpc_reader.specs.Values.{CallValue, ReplyValue, Body, sealed_flavor}
use Rattle.rpc_reader.specs.Values.Body.{success}
use Rattle.rpc_reader.specs.Messages.{IsReply}
use Rattle.nfs_history.specs.Calls.{ReplyEvent}

-- the reply to a call, where one came
abbrev pub Says : Option ReplyEvent → Option Body → Type 0
Says None body = body ≡ None
Says (Some event) body = (reply : ReplyValue) × IsReply event.message reply × (body ≡ Some reply.body)

-- the call failed in RPC: any reply but an accepted SUCCESS (RFC 5531, section 9)
abbrev pub was_refused : Option Body → Bool
was_refused None = false
was_refused (Some (success results)) = false
was_refused (Some body) = true

-- the result that a reply holds
abbrev pub results_of : Option Body → Option (List ℕ)
results_of (Some (success results)) = Some results
results_of body = None

-- a result whose first word, the status, isn't 0 (RFC 1813, section 2.6)
abbrev pub has_failed_status : Option (List ℕ) → Bool
has_failed_status None = false
has_failed_status (Some results) = nat_le 4 (length results) && not (word_of results == 0)

-- NFS version 3 (RFC 1813, section 2.2)
abbrev pub is_of_nfs : CallValue → Bool
is_of_nfs head = (head.program == nfs_program) && (head.version == nfs_version)

-- MKNOD and LINK (RFC 1813, sections 3.3.11 and 3.3.15): in the model an object has one path, and nodes are of three
-- kinds
abbrev pub is_left_out : ℕ → Bool
is_left_out procedure = procedure == number MkNod || procedure == number Link

-- a call that failed in RPC, of another program or version, of a procedure that isn't judged, or a LINK or MKNOD that
-- was answered by a failure; what RPCSEC_GSS (RFC 2203) hides may have an effect
abbrev pub has_no_effect : CallValue → Option Body → Bool
has_no_effect head body =
    (was_refused body || not (is_of_nfs head))
    || (not (head.flavor == sealed_flavor) && (if is_left_out head.procedure then has_failed_status (results_of body) else not (is_judged head.procedure)))
