-- For the prover, and for callers.
-- A file that is mended, item by item and event by event: what the code's private functions say to the prover.
use Rattle.std.specs.Prelude.{◌≡◌, ◌⊎◌, ℕ, ◌+◌, ◌≤◌, List, length, Result, Ok, Err}
use Rattle.xdr_records.specs.Unread.{Unread}
use Rattle.history_file.specs.declared.fault.FileFault.{FileFault}
use Rattle.history_file.specs.declared.fault.FileFault.TheVariants as faults
use Rattle.history_file.specs.declared.file.EventKind as file
use Rattle.history_file.specs.declared.file.EventKind.TheVariants as file_kinds
use Rattle.history_file.specs.Limits.{event_limit}
use Rattle.history_file.specs.Event.{Event}
use Rattle.history_file.specs.HistoryFile.{event}
use Rattle.history_file.specs.Owning.{seen_event, all_seen}
use Rattle.nfs_history.specs.declared.checking.OpenCalls.{OpenCalls}
use Rattle.nfs_history.specs.Checking.{Knows}
use Rattle.nfs_history.specs.Standing.{MayFollow}
use Rattle.history_mending.specs.declared.items.EventKind.{EventKind}
use Rattle.history_mending.specs.declared.items.EventKind.TheVariants as read_kinds
use Rattle.history_mending.specs.declared.events.Next.{Next}
use Rattle.history_mending.specs.declared.events.Next.TheVariants as nexts
use Rattle.history_mending.specs.declared.events.WholeEvents.{WholeEvents}
use Rattle.history_mending.specs.Fronts.{Begins, IsFront}
use Rattle.history_mending.specs.Ends.{EndsSo}

abbrev pub kind_value : EventKind → file.EventKind
kind_value read_kinds.Call = file_kinds.Call
kind_value read_kinds.Reply = file_kinds.Reply
kind_value read_kinds.Close = file_kinds.Close
kind_value read_kinds.Crash = file_kinds.Crash

-- a value is what is read from the front, and an error is what is wrong there, or want of memory
abbrev pub TellsOrNoMemory : {X Y : Type 0} → (X → Y) → Unread → Result X FileFault → Result (Y × Unread) FileFault → Type 0
TellsOrNoMemory view new (Ok x) answer = answer ≡ Ok (view x, new)
TellsOrNoMemory view new (Err fault) answer = (fault ≡ faults.NoMemory) ⊎ (answer ≡ Err fault)

-- behind these events the next one stands at the front of the rest, or they end so
abbrev pub IsNext : ℕ → List Event → List ℕ → Next → Type 0
IsNext over seen rest (nexts.Another next behind) =
    Begins (event (length seen + 1)) (seen_event next) rest behind.now × MayFollow seen (seen_event next) × (length seen + 1 ≤ event_limit) × (over ≤ length behind.now)
IsNext over seen rest (nexts.Ended end) = EndsSo over seen rest end

-- these events were read, and it is known which may follow
pub record IsReadTo (over : ℕ) (body : List ℕ) (seen : List Event) (known : OpenCalls) (rest : List ℕ) : Type 0 where
  pub front : IsFront over body seen rest
  pub knows : Knows known seen

-- all of them were read
pub record AreWhole (over : ℕ) (body : List ℕ) (read : WholeEvents) : Type 0 where
  pub front : IsFront over body (all_seen read.events.items) read.rest.now
  pub ends : EndsSo over (all_seen read.events.items) read.rest.now read.end
