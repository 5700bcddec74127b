-- For the prover, and for callers.
-- What is said to the prover of a call that is placed: the step that it takes in the tree, and what stands of it afterwards.
use Rattle.std.specs.Prelude.{◌≡◌, ◌≢◌, ◌&&◌, ℕ, ◌-◌, ◌<◌, ◌≤◌, Bool, true, false, List, [], ◌∷◌, ◌++◌, length, slice_get, slice_set, vec_len, vec_capacity, Option, Some, None, IfSome, is_some, ⊤, if◌then◌else◌, ◌^◌}
use Rattle.std.specs.declared.vec.Vec.{Vec}
use Rattle.std.specs.declared.alloc.Global.{Global}
use Rattle.xdr_records.specs.Record.{record_limit}
use Rattle.rpc_reader.specs.Values.Body.{success}
use Rattle.rpc_reader.specs.Messages.{IsReply}
use Rattle.nfs3_types.specs.declared.calls.NfsCall.{NfsCall}
use Rattle.nfs3_types.specs.declared.replies.NfsReply.{NfsReply}
use Rattle.nfs3_types.specs.declared.replies.Outcome.{Outcome}
use Rattle.nfs3_types.specs.declared.replies.Outcome.TheVariants as outcomes
use Rattle.nfs3_types.specs.Procedures.{procedure_answered}
use Rattle.nfs3_msgs.specs.Messages.{IsResult, result_text}
use Rattle.history_file.specs.declared.event.Event.TheVariants as events
use Rattle.nfs_history.specs.declared.recorded.RecordedCall.{RecordedCall}
use Rattle.nfs_history.specs.Precedence.{call_at}
use Rattle.tree_nodes.specs.Tree.{Tree, entry_of}
use Rattle.tree_nodes.specs.Undo.{TakesBack}
use Rattle.tree_handles.specs.Binding.{Bindings, object_of, pairs_without}
use Rattle.tree_starts.specs.declared.profile.Profile.{Profile}
use Rattle.file_tree.specs.Setting.{under}
use Rattle.cut_check.specs.Verifier.{verifier_of}
use Rattle.journal.specs.Device.{Device, appended}
use Rattle.book_laws.specs.Book.{Book, handle_of}
use Rattle.book_laws.specs.Book.Condition.{down, dead}
use Rattle.book_laws.specs.Placing.{is_recorded}
use Rattle.book_laws.specs.Served.{IsServed}
use Rattle.book_laws.specs.Steps.{reply_message, journal_record}
use Rattle.book_ledger.specs.declared.placed.Condition.TheVariants as codes
use Rattle.book_ledger.specs.declared.placing.TreeStep.{TreeStep}
use Rattle.book_ledger.specs.declared.ledger.Ledger.{Ledger}
use Rattle.book_ledger.specs.declared.fault.PlaceFault.{PlaceFault}
use Rattle.book_ledger.specs.declared.fault.PlaceFault.TheVariants as place
use Rattle.book_ledger.specs.Inside.{asked_by, object_in}
use Rattle.book_ledger.specs.Recordable.{may_make, step_so}
use Rattle.book_ledger.specs.Serving.{IsAllowed}
use Rattle.book_ledger.specs.Refusals.{after_place}

-- ---- the tree

-- with the handle of an object behind the others
abbrev pub with_own : ℕ → Bindings → Bindings
with_own number binds = record binds { pairs = binds.pairs ++ (handle_of number, number) ∷ [] }

abbrev pub without_own : ℕ → Bindings → Bindings
without_own number binds = record binds { pairs = pairs_without (handle_of number) binds.pairs }

abbrev pub bound_if : Bool → ℕ → Bindings → Bindings
bound_if true number binds = with_own number binds
bound_if false number binds = binds

-- each handle names the same
abbrev pub NameAlike : Bindings → Bindings → Type 0
NameAlike binds other = (handle : List ℕ) → object_of binds handle ≡ object_of other handle

-- the step of a call, with its own handle bound where that is so; the handle stays bound where the object is there
pub record TakesStep (profile : Profile) (own : Bool) (binds : Bindings) (before : Tree) (number : ℕ) (call : NfsCall) (outcome : Outcome) (bound : Bindings) (after : Tree) (step : TreeStep) : Type 0 where
  pub next : under profile (bound_if own number binds) before number call outcome ≡ Some after
  pub back : TakesBack step.undo after before
  pub made : step.made ≡ (own && is_some (entry_of after number))
  pub names : NameAlike bound (bound_if step.made number binds)

-- the same in the book's own tree; nothing else of it has changed
pub record HasStepped (old : Ledger) (number : ℕ) (outcome : Outcome) (step : TreeStep) (new : Ledger) : Type 0 where
  pub before : Tree
  pub after : Tree
  pub stood : old.tree ≡ Some before
  pub parts : new ≡ record old { binds = new.binds; tree = Some after }
  pub takes : TakesStep old.history.known.head.profile (may_make (asked_by old.history.known.calls number)) old.binds before (object_in old number) (asked_by old.history.known.calls number) outcome new.binds after step

-- the tree doesn't allow it
abbrev pub HasNoStep : Ledger → ℕ → Outcome → Type 0
HasNoStep ledger number outcome =
    (tree : Tree) → ledger.tree ≡ Some tree
    → under ledger.history.known.head.profile (bound_if (may_make (asked_by ledger.history.known.calls number)) (object_in ledger number) ledger.binds) tree (object_in ledger number) (asked_by ledger.history.known.calls number) outcome ≡ None

-- nothing has changed, but for the order in which handles are bound
pub record HasStayed (old new : Ledger) : Type 0 where
  pub parts : new ≡ record old { binds = new.binds }
  pub names : NameAlike new.binds old.binds

-- ---- the reply

abbrev pub IsReceived : Outcome → Type 0
IsReceived outcome = (reply : NfsReply) × (outcome ≡ outcomes.Received reply)

-- the handle of the call's object has eight bytes
abbrev pub IsNumbered : Ledger → ℕ → Type 0
IsNumbered ledger number = object_in ledger number < 2 ^ 64

abbrev pub ShowsNow : Ledger → ℕ → Outcome → Type 0
ShowsNow ledger number outcome = IfSome (verifier_of (asked_by ledger.history.known.calls number) outcome) (λ verifier. verifier ≡ ledger.history.known.eras)

abbrev pub MayGive : Ledger → ℕ → Outcome → Type 0
MayGive ledger number outcome =
    (tree : Tree) (reply : NfsReply) → ledger.tree ≡ Some tree → outcome ≡ outcomes.Received reply
    → IsServed ledger.binds tree (object_in ledger number) (asked_by ledger.history.known.calls number) reply

-- where the tree allows it
abbrev pub GivesAllowed : Ledger → ℕ → Outcome → Type 0
GivesAllowed ledger number outcome =
    (tree : Tree) (reply : NfsReply) → ledger.tree ≡ Some tree → outcome ≡ outcomes.Received reply
    → IsAllowed ledger.binds tree (asked_by ledger.history.known.calls number) reply → IsServed ledger.binds tree (object_in ledger number) (asked_by ledger.history.known.calls number) reply

-- a call isn't placed since it may not, or for want of memory
abbrev pub StopsWhere : Type 0 → PlaceFault → Type 0
StopsWhere MayNot place.NotLegal = MayNot
StopsWhere MayNot place.NoMemory = ⊤
StopsWhere MayNot fault = ⊥

-- ---- the record

abbrev pub IsShortAnswer : Ledger → ℕ → Outcome → Type 0
IsShortAnswer ledger number outcome =
    (call : RecordedCall) (reply : NfsReply) → call_at ledger.history.known.calls number ≡ Some call → outcome ≡ outcomes.Received reply
    → length (reply_message call.xid reply) ≤ record_limit

-- the reply's message reads as that reply
abbrev pub IsSayable : Ledger → ℕ → Outcome → Type 0
IsSayable ledger number outcome =
    (call : RecordedCall) (reply : NfsReply) → call_at ledger.history.known.calls number ≡ Some call → outcome ≡ outcomes.Received reply
    → IsReply (reply_message call.xid reply) (record { xid = call.xid; body = success (result_text reply) }) × IsResult (procedure_answered reply) (result_text reply) reply

-- the bytes of the record, where there is one
abbrev pub HoldsBytes : Bool → List ℕ → Option (Vec ℕ Global) → Type 0
HoldsBytes true bytes (Some entry) = entry.items ≡ bytes
HoldsBytes true bytes None = ⊥
HoldsBytes false bytes (Some entry) = ⊥
HoldsBytes false bytes None = ⊤

abbrev pub IsEntry : Ledger → ℕ → Outcome → Option (Vec ℕ Global) → Type 0
IsEntry ledger number outcome entry =
    (call : RecordedCall) (message : List ℕ) (reply : NfsReply) → call_at ledger.history.known.calls number ≡ Some call
    → slice_get ledger.history.events (call.begin - 1) ≡ Some (events.Call call.lane message) → outcome ≡ outcomes.Received reply
    → HoldsBytes (is_recorded (step_so (asked_by ledger.history.known.calls number) outcome)) (journal_record number message (reply_message call.xid reply)) entry

-- ---- the place

-- the call stands behind the others
pub record HasPlaced (old : Ledger) (number : ℕ) (outcome : Outcome) (step : TreeStep) (recorded : Bool) (records : ℕ) (new : Ledger) : Type 0 where
  pub history : new.history ≡ old.history
  pub over : new.over ≡ old.over
  pub placed : new.placed.items ≡ old.placed.items ++ record { number = number; outcome = outcome; records = records } ∷ []
  pub calls : new.calls.items ≡ slice_set old.calls.items (number - 1) (record { place = Some (length old.placed.items); made = step.made })
  pub binds : new.binds ≡ old.binds
  pub tree : new.tree ≡ old.tree
  pub undos : new.undos.items ≡ (if recorded then old.undos.items ++ step.undo ∷ [] else old.undos.items)
  pub kept : new.kept ≡ old.kept
  pub condition : new.condition ≡ old.condition

-- there is room for a place and for what takes its step back
abbrev pub HasRoom : Ledger → Type 0
HasRoom ledger = (vec_len ledger.placed < vec_capacity ledger.placed) × (vec_len ledger.undos < vec_capacity ledger.undos)

-- nothing that is seen has changed
pub record IsSame (old new : Ledger) : Type 0 where
  pub history : new.history ≡ old.history
  pub over : new.over ≡ old.over
  pub placed : new.placed.items ≡ old.placed.items
  pub calls : new.calls ≡ old.calls
  pub binds : new.binds ≡ old.binds
  pub tree : new.tree ≡ old.tree
  pub undos : new.undos.items ≡ old.undos.items
  pub kept : new.kept ≡ old.kept
  pub condition : new.condition ≡ old.condition

-- the tree is gone, and so is the handle of what the step made
pub record HasLost (old : Ledger) (number : ℕ) (made : Bool) (new : Ledger) : Type 0 where
  pub history : new.history ≡ old.history
  pub over : new.over ≡ old.over
  pub placed : new.placed ≡ old.placed
  pub calls : new.calls ≡ old.calls
  pub binds : new.binds ≡ (if made then without_own (object_in old number) old.binds else old.binds)
  pub tree : new.tree ≡ None
  pub kept : new.kept ≡ old.kept
  pub condition : new.condition ≡ codes.Down

-- the device with the record, where there is one
abbrev pub entry_put : Option (Vec ℕ Global) → Device → Device
entry_put (Some entry) device = appended device entry.items
entry_put None device = device

-- what a place that was refused leaves, before the book goes down
pub record IsLeft (old : Book) (fault : PlaceFault) (new : Book) : Type 0 where
  pub alive : new.condition ≢ dead
  pub downed : record new { condition = down } ≡ after_place old fault
