-- For the prover, and for callers.
-- The plan that follows the replies of a history: the calls of an era stand in the order in which they were answered, each
-- crash keeps all of its era, and a handle names what the first reply that gave it made (this project's own plan; which
-- replies give the handle of a new object: RFC 1813, sections 3.3.8 to 3.3.10).
use Rattle.std.specs.Prelude.{◌≡◌, ◌≢◌, ◌==◌, ◌||◌, if◌then◌else◌, ℕ, ◌+◌, ◌<◌, ◌≤◌, Bool, false, IsTrue, List, [], ◌∷◌, length, Option, Some, None, unwrap_or}
use Rattle.std.specs.List.{AllByRecursion, Contains, IsDistinct}
use Rattle.std.specs.List.Sorted.{IsNonDecreasingBy}
use Rattle.nfs3_types.specs.declared.procedures.Procedure.TheVariants.{Create, MkDir, SymLink}
use Rattle.nfs3_types.specs.Procedures.{number}
use Rattle.nfs3_types.specs.declared.replies.Answer.{Answer}
use Rattle.nfs3_types.specs.declared.replies.Answer.TheVariants.{Done, Failed}
use Rattle.nfs3_types.specs.declared.replies.CreateSuccess.{CreateSuccess}
use Rattle.nfs3_types.specs.declared.replies.NfsReply.{NfsReply}
use Rattle.nfs3_types.specs.declared.replies.NfsReply.TheVariants as replies
use Rattle.nfs3_types.specs.declared.replies.Outcome.{Outcome}
use Rattle.nfs3_types.specs.declared.replies.Outcome.TheVariants as outcomes
use Rattle.tree_starts.specs.Start.{object_made}
use Rattle.nfs_history.specs.declared.recorded.RecordedCall.{RecordedCall}
use Rattle.nfs_history.specs.declared.recorded.CallKind.{CallKind}
use Rattle.nfs_history.specs.declared.recorded.CallKind.TheVariants as kinds
use Rattle.nfs_history.specs.HistoryValue.{CallsValue}
use Rattle.nfs_history.specs.Precedence.{call_at, end_of}
use Rattle.nfs_history.specs.Reread.{call_kind}
use Rattle.certificate.specs.declared.plan.Bind.{Bind}
use Rattle.certificate.specs.declared.plan.Place.{Place}
use Rattle.certificate.specs.declared.plan.Place.TheVariants.{Answered}
use Rattle.certificate.specs.declared.plan.EraPlan.{EraPlan}
use Rattle.certificate.specs.declared.plan.Certificate.{Certificate}
use Rattle.certificate.specs.Plan.{call_of}
use Rattle.certificate.specs.CertificateText.{AreRising}

-- a judged call that was answered
abbrev pub is_answered : CallKind → Bool
is_answered (kinds.Answered procedure failure) = Bool.true
is_answered kind = false

-- call n is an answered judged call of this era
pub record IsAnsweredIn (calls : List RecordedCall) (era n : ℕ) : Type 0 where
  pub call : RecordedCall
  pub there : call_at calls n ≡ Some call
  pub answered : IsTrue (is_answered (call_kind call))
  pub of_era : call.era ≡ era

-- the number of the event of a call's reply, or 0 where none came
abbrev pub replied_at : List RecordedCall → ℕ → ℕ
replied_at calls n = unwrap_or (end_of calls n) 0

-- call n is an answered judged call
pub record IsAnswered (calls : List RecordedCall) (n : ℕ) : Type 0 where
  pub era : ℕ
  pub in_era : IsAnsweredIn calls era n

-- the numbers of all answered judged calls, each once, none behind one that was answered later
pub record AreAnsweredInOrder (calls : List RecordedCall) (numbers : List ℕ) : Type 0 where
  pub each : AllByRecursion (IsAnswered calls) numbers
  pub every : (n : ℕ) → IsAnswered calls n → Contains numbers n
  pub once : IsDistinct ◌==◌ numbers
  pub sorted : IsNonDecreasingBy (replied_at calls) numbers

-- each call was answered ahead of those that stand behind it
abbrev pub RepliesRise : List RecordedCall → List Place → Type 0
RepliesRise calls [] = Unit {0}
RepliesRise calls (place ∷ places) =
    AllByRecursion (λ later. replied_at calls (call_of place) < replied_at calls (call_of later)) places × RepliesRise calls places

-- a place of an answered judged call of this era, with its reply
pub record IsReplyPlace (calls : List RecordedCall) (era : ℕ) (place : Place) : Type 0 where
  pub number : ℕ
  pub stands : place ≡ Answered number
  pub answered : IsAnsweredIn calls era number

-- the places of an era follow its replies
pub record FollowsReplies (calls : List RecordedCall) (era : ℕ) (places : List Place) : Type 0 where
  pub each : AllByRecursion (λ place. IsReplyPlace calls era place) places
  pub every : (n : ℕ) → IsAnsweredIn calls era n → Contains places (Answered n)
  pub rising : RepliesRise calls places

-- each crash keeps the whole of its era, and behind the last era there is none
abbrev pub cut_behind : List Place → List EraPlan → Option ℕ
cut_behind places [] = None
cut_behind places (next ∷ eras) = Some (length places)

-- so do all eras, the first of which has this number
abbrev pub ErasFollow : List RecordedCall → ℕ → List EraPlan → Type 0
ErasFollow calls e [] = Unit {0}
ErasFollow calls e (era ∷ eras) =
    FollowsReplies calls e era.places × (era.cut ≡ cut_behind era.places eras) × ErasFollow calls (e + 1) eras

-- an answered CREATE, MKDIR or SYMLINK
abbrev pub makes_object : CallKind → Bool
makes_object (kinds.Answered procedure failure) =
    number procedure == number Create || number procedure == number MkDir || number procedure == number SymLink
makes_object kind = false

-- the handle in a successful answer
abbrev pub handle_in : {F : Type 0} → Answer CreateSuccess F → Option (List ℕ)
handle_in (Done success) = success.object
handle_in (Failed failure rest) = None

abbrev pub handle_replied : NfsReply → Option (List ℕ)
handle_replied (replies.Create answer) = handle_in answer
handle_replied (replies.MkDir answer) = handle_in answer
handle_replied (replies.SymLink answer) = handle_in answer
handle_replied reply = None

abbrev pub handle_received : Option Outcome → Option (List ℕ)
handle_received (Some (outcomes.Received reply)) = handle_replied reply
handle_received (Some (outcomes.Taken count)) = None
handle_received None = None

-- the handle that a call was given as a successful CREATE, MKDIR or SYMLINK
abbrev pub handle_given : RecordedCall → Option (List ℕ)
handle_given call = if makes_object (call_kind call) then handle_received call.outcome else None

-- call n was given this handle
pub record IsMaker (calls : List RecordedCall) (handle : List ℕ) (n : ℕ) : Type 0 where
  pub call : RecordedCall
  pub there : call_at calls n ≡ Some call
  pub gave : handle_given call ≡ Some handle

-- the object is that of call n, and of the calls that were given the handle none was answered before that one; the root's handle is bound
-- already
pub record IsFirstMade (history : CallsValue) (handle : List ℕ) (object : ℕ) : Type 0 where
  pub number : ℕ
  pub made : object ≡ object_made (length history.head.start) number
  pub maker : IsMaker history.calls handle number
  pub some : 0 < length handle
  pub fits : length handle ≤ 64
  pub other : handle ≢ history.head.root
  pub first : (m : ℕ) → IsMaker history.calls handle m → replied_at history.calls number ≤ replied_at history.calls m

-- each handle is bound to what the first call made that was given it, in the order of the handles
pub record BindsFirstMakers (history : CallsValue) (binds : List Bind) : Type 0 where
  pub rising : AreRising binds
  pub each : AllByRecursion (λ bind. IsFirstMade history bind.handle bind.object) binds
  pub every : (handle : List ℕ) (object : ℕ) → IsFirstMade history handle object → Contains binds (record { handle = handle; object = object })

-- the plan follows the replies
pub record IsReplyOrder (history : CallsValue) (plan : Certificate) : Type 0 where
  pub as_many_eras : length plan.eras ≡ history.eras
  pub eras : ErasFollow history.calls 1 plan.eras
  pub binds : BindsFirstMakers history plan.binds
