-- Believed.
-- The first call at fault, and why (RFC 5531, section 9, and RFC 1813, section 3.3; what lies outside the model, and the
-- order of faults, are this project's own).
use Rattle.std.specs.Prelude.{◌≡◌, ◌≢◌, ◌⊎◌, ◌==◌, ◌<◌, ℕ, ◌+◌, true, false, if◌then◌else◌, List, [], ◌∷◌, length, Option, Some, None}
use Rattle.nfs3_types.specs.declared.calls.NfsCall.{NfsCall}
use Rattle.nfs3_types.specs.declared.replies.NfsReply.{NfsReply}
use Rattle.nfs3_types.specs.declared.replies.Outcome.{Outcome}
use Rattle.rpc_reader.specs.Values.{CallValue, Body, sealed_flavor}
use Rattle.rpc_reader.specs.Messages.{IsCall}
use Rattle.nfs3_msgs.specs.Messages.{IsArguments, IsResult}
use Rattle.nfs_history.specs.declared.fault.Which.{Which}
use Rattle.nfs_history.specs.declared.fault.Which.TheVariants as which
use Rattle.nfs_history.specs.declared.fault.CallFault.{CallFault}
use Rattle.nfs_history.specs.declared.fault.CallFault.TheVariants as faults
use Rattle.nfs_history.specs.declared.recorded.Meaning.{Meaning}
use Rattle.nfs_history.specs.Calls.{CallEvent}
use Rattle.nfs3_types.specs.declared.procedures.Procedure.TheVariants as procedures
use Rattle.nfs3_types.specs.Procedures.{number, is_judged}
use Rattle.nfs_history.specs.Effects.{Says, results_of, is_left_out, has_no_effect}
use Rattle.nfs_history.specs.History.{CameOut, Means}
use Rattle.nfs_history.specs.Outside.{outside}

-- MKNOD or LINK
abbrev pub which_left_out : ℕ → Which
which_left_out procedure = if procedure == number procedures.Link then which.Link else which.Node

-- a result of less than four bytes, so without a status word
abbrev pub HasNoStatus : Option (List ℕ) → Type 0
HasNoStatus None = ⊥
HasNoStatus (Some results) = length results < 4

-- the bytes are no arguments, or no result, of the procedure
abbrev pub AreNoArguments : ℕ → List ℕ → Type 0
AreNoArguments procedure bytes = ¬ ((call : NfsCall) × IsArguments procedure bytes call)

abbrev pub IsNoResult : ℕ → List ℕ → Type 0
IsNoResult procedure bytes = ¬ ((reply : NfsReply) × IsResult procedure bytes reply)

-- a reply came whose bytes are no result: of a LINK or MKNOD they have no status; of a judged call, whose arguments can be read,
-- they are no result of its procedure
abbrev pub IsBadResult : CallValue → Option (List ℕ) → Type 0
IsBadResult head results =
    ((is_left_out head.procedure ≡ true) × HasNoStatus results)
    ⊎ ((is_judged head.procedure ≡ true) × ((call : NfsCall) × IsArguments head.procedure head.args call)
    × ((bytes : List ℕ) × (results ≡ Some bytes) × IsNoResult head.procedure bytes))

-- the call lies outside the model: a LINK or MKNOD (one that was answered by a failure has no effect, and isn't asked here), or a
-- judged call that is outside, as it came out
abbrev pub LiesOutside : CallValue → Option (List ℕ) → Which → Type 0
LiesOutside head results which =
    ((is_left_out head.procedure ≡ true) × (¬ HasNoStatus results) × (which ≡ which_left_out head.procedure))
    ⊎ ((is_judged head.procedure ≡ true) × (call : NfsCall) × (outcome : Option Outcome) × IsArguments head.procedure head.args call
    × CameOut head.procedure results outcome × (outside call outcome ≡ Some which))

-- what is wrong with a call that may have an effect, and has this number, head and result; RPCSEC_GSS (RFC 2203) hides
-- its arguments
abbrev pub IsEffectFault : ℕ → CallValue → Option (List ℕ) → CallFault → Type 0
IsEffectFault n head results (faults.Sealed at) = (at ≡ n) × (head.flavor ≡ sealed_flavor)
IsEffectFault n head results (faults.BadArgs at) =
    (at ≡ n) × (head.flavor ≢ sealed_flavor) × (is_judged head.procedure ≡ true) × AreNoArguments head.procedure head.args
IsEffectFault n head results (faults.BadResult at) = (at ≡ n) × (head.flavor ≢ sealed_flavor) × IsBadResult head results
IsEffectFault n head results (faults.Outside at which) = (at ≡ n) × (head.flavor ≢ sealed_flavor) × LiesOutside head results which

-- call n is at fault
abbrev pub IsCallFault : ℕ → CallEvent → CallFault → Type 0
IsCallFault n event fault =
    (head : CallValue) × (body : Option Body) × IsCall event.message head × Says event.answer body
    × (has_no_effect head body ≡ false) × IsEffectFault n head (results_of body) fault

-- it is known what the call was
abbrev pub IsFine : CallEvent → Type 0
IsFine event = (meaning : Meaning) × (outcome : Option Outcome) × Means event meaning outcome

-- among calls that are numbered from n on, the first that is at fault has this fault
abbrev pub FirstCallFault : ℕ → List CallEvent → CallFault → Type 0
FirstCallFault n [] fault = ⊥
FirstCallFault n (event ∷ events) fault = IsCallFault n event fault ⊎ (IsFine event × FirstCallFault (n + 1) events fault)
