-- Believed.
-- Which messages a book takes: those of judged calls that a history takes whatever is answered, in a record within its limit.
use Rattle.std.specs.Prelude.{◌≡◌, ◌==◌, ◌&&◌, not, ◌≤◌, ℕ, Bool, true, false, List, [], length, None, ⊤, Result, Ok, Err}
use Rattle.xdr_records.specs.Record.{record_limit}
use Rattle.rpc_reader.specs.Values.{CallValue, sealed_flavor}
use Rattle.nfs3_types.specs.declared.calls.NfsCall.{NfsCall}
use Rattle.nfs3_types.specs.declared.calls.NfsCall.TheVariants as calls
use Rattle.nfs3_types.specs.declared.replies.Outcome.{Outcome}
use Rattle.history_file.specs.Owning.{all_happened}
use Rattle.nfs_history.specs.declared.fault.HistoryFault.{HistoryFault}
use Rattle.nfs_history.specs.declared.fault.HistoryFault.TheVariants as history_faults
use Rattle.nfs_history.specs.HistoryValue.{HistoryValue}
use Rattle.nfs_history.specs.Calls.{xid_of}
use Rattle.nfs_history.specs.Standing.{has_unanswered, EachMayFollow}
use Rattle.nfs3_types.specs.Procedures.{nfs_program, nfs_version, is_judged}
use Rattle.nfs_history.specs.Outside.{outside}
use Rattle.nfs3_msgs.specs.Messages.{IsArguments}
use Rattle.rpc_reader.specs.Messages.{IsCall}
use Rattle.book_laws.specs.Placing.{Placed}
use Rattle.book_laws.specs.Steps.{IsRecordable}
use Rattle.book_ledger.specs.declared.fault.BeginFault.{BeginFault}
use Rattle.book_ledger.specs.declared.fault.BeginFault.TheVariants as faults

pub record CanBeRecorded (message : List ℕ) : Type 0 where
  pub call : NfsCall
  pub recordable : IsRecordable message call
  pub within : length message ≤ record_limit

-- ---- what private functions say to the prover

-- a call of a judged procedure whose arguments can be read
abbrev pub asks_judged : CallValue → Bool
asks_judged head = (head.program == nfs_program) && (head.version == nfs_version) && not (head.flavor == sealed_flavor) && is_judged head.procedure

pub record AsksJudged (message : List ℕ) (head : CallValue) : Type 0 where
  pub asked : IsCall message head
  pub judged : asks_judged head ≡ true

-- the answer to whether a call lies inside the model whatever its reply
abbrev pub IsKeptInside : NfsCall → Result NfsCall BeginFault → Type 0
IsKeptInside call (Ok kept) = (kept ≡ call) × (outside call None ≡ None)
IsKeptInside call (Err faults.BadRecord) = ¬ (outside call None ≡ None)
IsKeptInside call (Err fault) = ⊥

-- the same of arguments
abbrev pub AreKeptArguments : ℕ → List ℕ → Result NfsCall BeginFault → Type 0
AreKeptArguments procedure bytes (Ok call) = IsArguments procedure bytes call × (outside call None ≡ None)
AreKeptArguments procedure bytes (Err faults.BadRecord) = (call : NfsCall) → IsArguments procedure bytes call → ¬ (outside call None ≡ None)
AreKeptArguments procedure bytes (Err faults.NoMemory) = ⊤
AreKeptArguments procedure bytes (Err fault) = ⊥

-- the answer to whether a message is one; the want of memory says nothing
abbrev pub IsKeptAsked : List ℕ → Result NfsCall BeginFault → Type 0
IsKeptAsked message (Ok call) = IsRecordable message call
IsKeptAsked message (Err faults.BadRecord) = ¬ CanBeRecorded message
IsKeptAsked message (Err faults.NoMemory) = ⊤
IsKeptAsked message (Err fault) = ⊥

-- CREATE, MKDIR and SYMLINK make an object where they succeed
abbrev pub may_make : NfsCall → Bool
may_make (calls.Create _) = true
may_make (calls.MkDir _) = true
may_make (calls.SymLink _) = true
may_make _ = false

-- a call that came out so, whatever its number
abbrev pub step_so : NfsCall → Outcome → Placed
step_so call outcome = record { number = 0; call = call; outcome = outcome }

-- why no call was put behind the other events
abbrev pub TakeStops : HistoryValue → ℕ → List ℕ → BeginFault → Type 0
TakeStops history lane message faults.XidInUse = EachMayFollow [] (all_happened history.events) → has_unanswered lane (xid_of message) (all_happened history.events) ≡ true
TakeStops history lane message faults.NoMemory = ⊤
TakeStops history lane message fault = ⊥

-- as this a history's fault is told
abbrev pub stop_of : HistoryFault → BeginFault
stop_of (history_faults.XidInUse number) = faults.XidInUse
stop_of fault = faults.NoMemory
