-- For the prover, and for callers.
-- What of the parts in memory of a book is seen, and how they belong together.
use Rattle.std.specs.List.{range_with_len}
use Rattle.tree_starts.specs.Start.{IsStart, object_made}
use Rattle.tree_starts.specs.declared.object.StartObject.{StartObject}
use Rattle.tree_starts.specs.declared.profile.Profile.{Profile}
use Rattle.book_laws.specs.Book.{Setting}
use Rattle.std.specs.Prelude.{◌≡◌, ℕ, ◌+◌, ◌-◌, ◌≤◌, if◌then◌else◌, List, [], ◌∷◌, ◌++◌, length, map, take, slice_get, Option, Some, IfSome, IsSome}
use Rattle.std.specs.List.{AllByRecursion}
use Rattle.std.specs.Option.{option_map_or}
use Rattle.xdr_records.specs.Record.{record_limit}
use Rattle.nfs3_types.specs.declared.calls.NfsCall.{NfsCall}
use Rattle.nfs3_types.specs.declared.calls.NfsCall.TheVariants as calls
use Rattle.nfs3_types.specs.declared.replies.Outcome.{Outcome}
use Rattle.history_file.specs.declared.event.Event.{Event}
use Rattle.history_file.specs.declared.event.Event.TheVariants as events
use Rattle.nfs_history.specs.declared.recorded.Meaning.{Meaning}
use Rattle.nfs_history.specs.declared.recorded.Meaning.TheVariants as meanings
use Rattle.nfs_history.specs.declared.recorded.RecordedCall.{RecordedCall}
use Rattle.nfs_history.specs.Precedence.{call_at}
use Rattle.replay_law.specs.Run as run
use Rattle.replay_law.specs.Undone.{UndoesAll}
use Rattle.tree_nodes.specs.declared.undo.Undo.{Undo}
use Rattle.tree_nodes.specs.Tree.{Tree}
use Rattle.tree_nodes.specs.Undo.{TakesBack}
use Rattle.tree_handles.specs.Binding.{object_of}
use Rattle.journal.specs.Device.{Device, settled}
use Rattle.book_laws.specs.Placing.{Placed, records_in, front_with}
use Rattle.book_laws.specs.Book.{Book, Condition, bindings, tree_of, records_kept}
use Rattle.book_laws.specs.Book.Condition.{running, down, dead}
use Rattle.book_laws.specs.Steps.{opening_book, IsRun}
use Rattle.book_ledger.specs.declared.placed.PlacedCall.{PlacedCall}
use Rattle.book_ledger.specs.declared.placed.EraOver.{EraOver}
use Rattle.book_ledger.specs.declared.placed.CallState.{CallState}
use Rattle.book_ledger.specs.declared.placed.Condition as code
use Rattle.book_ledger.specs.declared.placed.Condition.TheVariants as codes
use Rattle.book_ledger.specs.declared.ledger.Ledger.{Ledger}

-- ---- what is seen

-- what a call asked, where it is a judged one
abbrev pub call_in : Meaning → NfsCall
call_in (meanings.Judged call) = call
call_in meanings.Unjudged = calls.GetAttr []

abbrev pub asked_by : List RecordedCall → ℕ → NfsCall
asked_by recorded number = option_map_or (λ call. call_in call.meaning) (call_at recorded number) (calls.GetAttr [])

abbrev pub placed_in : List RecordedCall → PlacedCall → Placed
placed_in recorded placed = record { number = placed.number; call = asked_by recorded placed.number; outcome = placed.outcome }

abbrev pub era_in : List RecordedCall → EraOver → run.Era NfsCall Outcome
era_in recorded era = record { steps = map (placed_in recorded) era.placed.items; kept = era.kept }

-- of these calls, whose objects have the numbers from this one on, the objects that were made
abbrev pub made_from : ℕ → List CallState → List ℕ
made_from number [] = []
made_from number (state ∷ states) = if state.made then number ∷ made_from (number + 1) states else made_from (number + 1) states

-- those that stood at first, so many, and behind them those that calls made
abbrev pub made_in : ℕ → List CallState → List ℕ
made_in first states = range_with_len 1 first ++ made_from (first + 1) states

abbrev pub condition_of : code.Condition → Condition
condition_of codes.Running = running
condition_of codes.Down = down
condition_of codes.Dead = dead

-- room that is set aside in the history is not seen
abbrev pub book_of : Ledger → Device → Book
book_of ledger device =
    record {
      history = record ledger.history { spare = 0 };
      over = map (era_in ledger.history.known.calls) ledger.over.items;
      placed = map (placed_in ledger.history.known.calls) ledger.placed.items;
      made = made_in (length ledger.history.known.head.start) ledger.calls.items;
      device = device;
      condition = condition_of ledger.condition;
    }

-- what the calls are judged by, by the handles that are bound, and the object of call n
abbrev pub setting_in : Ledger → Setting
setting_in ledger = record { profile = ledger.history.known.head.profile; first = length ledger.history.known.head.start; binds = ledger.binds }

abbrev pub object_in : Ledger → ℕ → ℕ
object_in ledger number = object_made (length ledger.history.known.head.start) number

-- ---- what holds

-- a run of steps leads to it
abbrev pub LeadsTo : Book → List Book → Book → Type 0
LeadsTo first [] book = first ≡ book
LeadsTo first (next ∷ books) book = LeadsTo next books book

pub record IsReached (book : Book) : Type 0 where
  pub profile : Profile
  pub start : List StartObject
  pub is_start : IsStart start
  pub faults : ℕ
  pub books : List Book
  pub run : IsRun (opening_book profile start faults) books
  pub leads : LeadsTo (opening_book profile start faults) books book

-- of so many records ahead, each call knows how many there are behind it
abbrev pub AreCounted : ℕ → List RecordedCall → List PlacedCall → Type 0
AreCounted ahead recorded [] = Unit {0}
AreCounted ahead recorded (placed ∷ rest) =
    (placed.records ≡ ahead + records_in (placed_in recorded placed ∷ [])) × AreCounted placed.records recorded rest

-- the tree behind the calls that a crash keeps with so many records
abbrev pub tree_behind : Book → ℕ → Option Tree
tree_behind book keep = tree_of (record book { placed = take (front_with (keep - records_kept book) book.placed) book.placed })

-- a call of the era now that has a place stands there, and what stands there has it
pub record ArePlaced (ledger : Ledger) : Type 0 where
  pub count : length ledger.calls.items ≡ length ledger.history.known.calls
  pub there : (number place : ℕ) (call : RecordedCall) (state : CallState) → call_at ledger.history.known.calls number ≡ Some call
      → call.era ≡ ledger.history.known.eras → slice_get ledger.calls.items (number - 1) ≡ Some state → state.place ≡ Some place
      → (placed : PlacedCall) × (slice_get ledger.placed.items place ≡ Some placed) × (placed.number ≡ number)
  pub has : (place : ℕ) (placed : PlacedCall) → slice_get ledger.placed.items place ≡ Some placed
      → (state : CallState) × (slice_get ledger.calls.items (placed.number - 1) ≡ Some state) × (state.place ≡ Some place)

-- the message of a call is no longer than a record may be
abbrev pub IsShort : Event → Type 0
IsShort (events.Call lane message) = length message ≤ record_limit
IsShort event = Unit {0}

-- how the parts belong together
pub record AreTied (ledger : Ledger) (device : Device) : Type 0 where
  pub reached : IsReached (book_of ledger device)
  pub kept : ledger.kept ≡ records_kept (book_of ledger device)
  pub counted : AreCounted ledger.kept ledger.history.known.calls ledger.placed.items
  pub placed : ArePlaced ledger
  pub short : AllByRecursion IsShort ledger.history.events
  -- handles name what they name in the book, in whatever order they were bound
  pub bound : (handle : List ℕ) → object_of ledger.binds handle ≡ object_of (bindings (book_of ledger device)) handle
  pub tree : IfSome ledger.tree (λ tree. tree_of (book_of ledger device) ≡ Some tree)
  pub stands : ledger.condition ≡ codes.Running → IsSome ledger.tree
  -- there is a value to take back each record past the mark
  pub undos : IsSome ledger.tree → length ledger.undos.items + device.mark ≡ length device.records
  -- the last ones lead back to the tree behind the records ahead of theirs
  pub undone : (earlier later : List Undo) (tree before : Tree) → ledger.undos.items ≡ earlier ++ later → ledger.tree ≡ Some tree
      → tree_behind (book_of ledger device) (length device.records - length later) ≡ Some before → UndoesAll TakesBack later tree before

-- there is a device to which they belong
abbrev pub IsTied : Ledger → Type 0
IsTied ledger = (device : Device) × AreTied ledger device

-- a judged call has this number
abbrev pub IsAsked : List RecordedCall → ℕ → Type 0
IsAsked recorded number = (call : RecordedCall) × (asked : NfsCall) × (call_at recorded number ≡ Some call) × (call.meaning ≡ meanings.Judged asked)

abbrev pub AreAsked : List RecordedCall → List PlacedCall → Type 0
AreAsked recorded placed = AllByRecursion (λ one. IsAsked recorded one.number) placed

-- the calls of an era that is over, of which so many were kept
pub record IsPlannable (recorded : List RecordedCall) (era : EraOver) : Type 0 where
  pub asked : AreAsked recorded era.placed.items
  pub within : era.kept ≤ length era.placed.items

abbrev pub ArePlannable : List RecordedCall → List EraOver → Type 0
ArePlannable recorded over = AllByRecursion (IsPlannable recorded) over

-- the call is one of these
abbrev pub IsOneOf : List RecordedCall → RecordedCall → Type 0
IsOneOf recorded call = (number : ℕ) × (call_at recorded number ≡ Some call)

-- the call with this number stands there among those that were placed now
abbrev pub StandsAt : Ledger → ℕ → ℕ → Type 0
StandsAt ledger number place = (placed : PlacedCall) × (slice_get ledger.placed.items place ≡ Some placed) × (placed.number ≡ number)

-- over any device that belongs to the old parts, the new ones belong to it too, and the books stand so
abbrev pub Goes : (Book → Book → Type 0) → Ledger → Ledger → Type 0
Goes Step old new = (device : Device) → AreTied old device → AreTied new device × Step (book_of old device) (book_of new device)

-- the same over a device of which so many records are on stable storage
abbrev pub GoesAt : ℕ → (Book → Book → Type 0) → Ledger → Ledger → Type 0
GoesAt mark Step old new = (device : Device) → AreTied old device → device.mark ≡ mark → AreTied new device × Step (book_of old device) (book_of new device)

-- over any device that belongs to the parts, this holds of the book
abbrev pub Holds : (Book → Type 0) → Ledger → Type 0
Holds P ledger = (device : Device) → AreTied ledger device → P (book_of ledger device)

-- the same where all records of the device were put on stable storage
abbrev pub Settles : Ledger → Ledger → Type 0
Settles old new =
    (device : Device) → AreTied old device
    → AreTied new (settled device) × (book_of new (settled device) ≡ record (book_of old device) { device = settled device })

-- ---- what private functions leave

-- nothing but the history, and how far its calls have come, is another
abbrev pub OnlyHistory : Ledger → Ledger → Type 0
OnlyHistory old new = new ≡ record old { history = new.history; calls = new.calls }
