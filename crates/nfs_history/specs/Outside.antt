-- Believed.
-- What of a call lies outside the model: a count of a WRITE that isn't its data's length, and a file over the limit (this
-- project's own; the calls are those of RFC 1813, section 3.3).
use Rattle.std.specs.Prelude.{◌==◌, ◌&&◌, not, nat_lt, ℕ, ◌+◌, Bool, false, if◌then◌else◌, length, Option, Some, None, is_some, unwrap_or}
use Rattle.nfs3_types.specs.declared.calls.NfsCall.{NfsCall}
use Rattle.nfs3_types.specs.declared.calls.NfsCall.TheVariants as calls
use Rattle.nfs3_types.specs.declared.calls.CreateMode.{CreateMode}
use Rattle.nfs3_types.specs.declared.calls.CreateMode.TheVariants as modes
use Rattle.nfs3_types.specs.Procedures.{failure_in}
use Rattle.nfs3_types.specs.Limits.{file_limit}
use Rattle.nfs3_types.specs.declared.replies.Outcome.{Outcome}
use Rattle.nfs3_types.specs.declared.replies.Outcome.TheVariants as outcomes
use Rattle.nfs_history.specs.declared.fault.Which.{Which}
use Rattle.nfs_history.specs.declared.fault.Which.TheVariants as which

-- a call that was answered by a failure
abbrev pub was_failure : Option Outcome → Bool
was_failure (Some (outcomes.Received reply)) = is_some (failure_in reply)
was_failure (Some (outcomes.Taken count)) = false
was_failure None = false

-- the size that a CREATE asks for
abbrev pub asked_size : CreateMode → ℕ
asked_size (modes.Unchecked attributes) = unwrap_or attributes.size 0
asked_size (modes.Guarded attributes) = unwrap_or attributes.size 0
asked_size (modes.Exclusive verifier) = 0

-- a size over the limit, but for a call that was answered by a failure
abbrev pub too_far : ℕ → Option Outcome → Option Which
too_far size outcome = if nat_lt file_limit size && not (was_failure outcome) then Some which.TooFar else None

-- what of a call lies outside the model: the count of a WRITE that isn't its data's length, and a file over the
-- limit
abbrev pub outside : NfsCall → Option Outcome → Option Which
outside (calls.SetAttr a) outcome = too_far (unwrap_or a.attributes.size 0) outcome
outside (calls.Write a) outcome =
    if not (a.count == length a.bytes) then Some which.CountDiffers
    else (if (nat_lt 0 a.count && nat_lt file_limit (a.offset + a.count)) && not (was_failure outcome) then Some which.TooFar else None)
outside (calls.Create a) outcome = too_far (asked_size a.mode) outcome
outside call outcome = None
