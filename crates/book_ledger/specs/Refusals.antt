-- Believed.
-- When a call of a book is refused, and what stands afterwards: of each call the refusals in their order, each where those ahead of it
-- don't apply. The want of memory says nothing of the call.
use Rattle.std.specs.Prelude.{◌≡◌, ◌≢◌, ◌⊎◌, ℕ, ◌<◌, ◌≤◌, true, List, ◌∷◌, ◌++◌, length, Some, None, Contains, Result, IfErr}
use Rattle.nfs3_types.specs.declared.replies.NfsReply.{NfsReply}
use Rattle.history_file.specs.Owning.{all_happened}
use Rattle.history_file.specs.Event.Event.{close}
use Rattle.nfs_history.specs.declared.recorded.RecordedCall.{RecordedCall}
use Rattle.nfs_history.specs.Calls.{xid_of}
use Rattle.nfs_history.specs.Precedence.{call_at, end_of}
use Rattle.nfs_history.specs.Standing.{IsCutOff, has_unanswered}
use Rattle.journal.specs.Device.{with_fault}
use Rattle.book_laws.specs.Placing.{Placed}
use Rattle.book_laws.specs.Book.{Book, records_kept}
use Rattle.book_laws.specs.Book.Condition.{running, down, dead}
use Rattle.book_laws.specs.Steps.{IsOpen, IsOfNow, IsUnplaced, IsDurable, Places}
use Rattle.book_ledger.specs.Recordable.{CanBeRecorded}
use Rattle.book_ledger.specs.declared.fault.BeginFault.{BeginFault}
use Rattle.book_ledger.specs.declared.fault.BeginFault.TheVariants as begin
use Rattle.book_ledger.specs.declared.fault.PlaceFault.{PlaceFault}
use Rattle.book_ledger.specs.declared.fault.PlaceFault.TheVariants as place
use Rattle.book_ledger.specs.declared.fault.FlushFault.{FlushFault}
use Rattle.book_ledger.specs.declared.fault.FlushFault.TheVariants as flush
use Rattle.book_ledger.specs.declared.fault.AnswerFault.{AnswerFault}
use Rattle.book_ledger.specs.declared.fault.AnswerFault.TheVariants as answer
use Rattle.book_ledger.specs.declared.fault.CloseFault.{CloseFault}
use Rattle.book_ledger.specs.declared.fault.CloseFault.TheVariants as closing
use Rattle.book_ledger.specs.declared.fault.CrashFault.{CrashFault}
use Rattle.book_ledger.specs.declared.fault.CrashFault.TheVariants as crash

-- ---- lanes and calls

-- the lane was used in an era that is over
abbrev pub IsOfEarlierEra : Book → ℕ → Type 0
IsOfEarlierEra book lane = IsCutOff lane (all_happened book.history.events)

-- the lane was closed in the era now
abbrev pub WasClosed : Book → ℕ → Type 0
WasClosed book lane = (¬ IsOfEarlierEra book lane) × Contains (all_happened book.history.events) (close lane)

-- the call is of an era that is over
pub record IsOver (book : Book) (number : ℕ) : Type 0 where
  pub call : RecordedCall
  pub recorded : call_at book.history.known.calls number ≡ Some call
  pub era : call.era ≢ book.history.known.eras

-- the call is of the era now, and its lane was closed
pub record IsCutShort (book : Book) (number : ℕ) : Type 0 where
  pub call : RecordedCall
  pub recorded : call_at book.history.known.calls number ≡ Some call
  pub era : call.era ≡ book.history.known.eras
  pub closed : WasClosed book call.lane

abbrev pub IsNow : Book → ℕ → Type 0
IsNow book number = (call : RecordedCall) × IsOfNow book number call

-- ---- the refusals

abbrev pub BeginStops : Book → ℕ → List ℕ → BeginFault → Type 0
BeginStops book lane message begin.Down = book.condition ≢ running
BeginStops book lane message (begin.EraOver now) = (book.condition ≡ running) × IsOfEarlierEra book lane × (now ≡ book.history.known.eras)
BeginStops book lane message begin.LaneClosed = (book.condition ≡ running) × WasClosed book lane
BeginStops book lane message begin.BadRecord = (book.condition ≡ running) × IsOpen book lane × (¬ CanBeRecorded message)
BeginStops book lane message begin.XidInUse =
    (book.condition ≡ running) × IsOpen book lane × CanBeRecorded message × (has_unanswered lane (xid_of message) (all_happened book.history.events) ≡ true)
BeginStops book lane message begin.NoMemory = (book.condition ≡ running) × IsOpen book lane

abbrev pub PlaceStops : Book → ℕ → NfsReply → PlaceFault → Type 0
PlaceStops book number reply place.Down = book.condition ≢ running
PlaceStops book number reply (place.EraOver now) = (book.condition ≡ running) × IsOver book number × (now ≡ book.history.known.eras)
PlaceStops book number reply place.LaneClosed = (book.condition ≡ running) × IsCutShort book number
PlaceStops book number reply place.OutOfTurn =
    (book.condition ≡ running) × ((call_at book.history.known.calls number ≡ None) ⊎ IsNow book number × (¬ IsUnplaced book.placed number))
PlaceStops book number reply place.NotLegal =
    (book.condition ≡ running) × IsNow book number × IsUnplaced book.placed number × (¬ ((new : Book) × Places book number reply new))
PlaceStops book number reply place.DeviceFault =
    (book.condition ≡ running) × IsNow book number × IsUnplaced book.placed number × ((new : Book) × Places book number reply new)
PlaceStops book number reply place.NoMemory = (book.condition ≡ running) × IsNow book number × IsUnplaced book.placed number

-- what a refused place leaves
abbrev pub after_place : Book → PlaceFault → Book
after_place book place.NotLegal = record book { condition = down }
after_place book place.DeviceFault = record book { condition = down; device = with_fault book.device }
after_place book place.NoMemory = record book { condition = down }
after_place book fault = book

abbrev pub after_flush : Book → FlushFault → Book
after_flush book flush.Down = book
after_flush book flush.DeviceFault = record book { condition = down; device = with_fault book.device }

abbrev pub FlushStops : Book → FlushFault → Type 0
FlushStops book flush.Down = book.condition ≢ running
FlushStops book flush.DeviceFault = book.condition ≡ running

-- it is placed here, and isn't answered
pub record IsAnswerable (book : Book) (number : ℕ) (ahead : List Placed) (step : Placed) : Type 0 where
  pub now : IsNow book number
  pub unanswered : end_of book.history.known.calls number ≡ None
  pub behind : List Placed
  pub placed : book.placed ≡ ahead ++ step ∷ behind
  pub named : step.number ≡ number

abbrev pub AnswerStops : Book → ℕ → AnswerFault → Type 0
AnswerStops book number answer.Down = book.condition ≢ running
AnswerStops book number (answer.EraOver now) = (book.condition ≡ running) × IsOver book number × (now ≡ book.history.known.eras)
AnswerStops book number answer.LaneClosed = (book.condition ≡ running) × IsCutShort book number
AnswerStops book number answer.OutOfTurn =
    (book.condition ≡ running)
    × ((call_at book.history.known.calls number ≡ None) ⊎ IsNow book number × (¬ ((ahead : List Placed) × (step : Placed) × IsAnswerable book number ahead step)))
AnswerStops book number (answer.NotDurable mark) =
    (book.condition ≡ running) × (mark ≡ book.device.mark)
    × ((ahead : List Placed) × (step : Placed) × IsAnswerable book number ahead step × (¬ IsDurable (records_kept book) mark ahead step))
AnswerStops book number answer.NoMemory =
    (book.condition ≡ running)
    × ((ahead : List Placed) × (step : Placed) × IsAnswerable book number ahead step × IsDurable (records_kept book) book.device.mark ahead step)

abbrev pub CloseStops : Book → ℕ → CloseFault → Type 0
CloseStops book lane (closing.EraOver now) = IsOfEarlierEra book lane × (now ≡ book.history.known.eras)
CloseStops book lane closing.LaneClosed = WasClosed book lane
CloseStops book lane closing.NoMemory = IsOpen book lane

-- a crash may leave so many records
abbrev pub MayKeep : Book → ℕ → Type 0
MayKeep book keep = (book.device.mark ≤ keep) × (keep ≤ length book.device.records)

abbrev pub CrashStops : Book → ℕ → CrashFault → Type 0
CrashStops book keep crash.Down = book.condition ≡ dead
CrashStops book keep (crash.KeepTooSmall mark) = (book.condition ≢ dead) × (mark ≡ book.device.mark) × (keep < mark)
CrashStops book keep (crash.KeepTooLarge len) = (book.condition ≢ dead) × (len ≡ length book.device.records) × (len < keep)
CrashStops book keep crash.DeviceFault = (book.condition ≢ dead) × MayKeep book keep
CrashStops book keep crash.NoMemory = (book.condition ≢ dead) × MayKeep book keep

abbrev pub after_crash : Book → CrashFault → Book
after_crash book crash.DeviceFault = record book { condition = dead; device = with_fault book.device }
after_crash book crash.NoMemory = record book { condition = dead }
after_crash book fault = book

-- ---- the refusals with what stands afterwards

abbrev pub BeginRefused : {A : Type 0} → Book → ℕ → List ℕ → Result A BeginFault → Book → Type 0
BeginRefused old lane message result new = IfErr result (λ fault. BeginStops old lane message fault × (new ≡ old))

abbrev pub PlaceRefused : {A : Type 0} → Book → ℕ → NfsReply → Result A PlaceFault → Book → Type 0
PlaceRefused old number reply result new = IfErr result (λ fault. PlaceStops old number reply fault × (new ≡ after_place old fault))

abbrev pub FlushRefused : {A : Type 0} → Book → Result A FlushFault → Book → Type 0
FlushRefused old result new = IfErr result (λ fault. FlushStops old fault × (new ≡ after_flush old fault))

abbrev pub AnswerRefused : {A : Type 0} → Book → ℕ → Result A AnswerFault → Book → Type 0
AnswerRefused old number result new = IfErr result (λ fault. AnswerStops old number fault × (new ≡ old))

abbrev pub CloseRefused : {A : Type 0} → Book → ℕ → Result A CloseFault → Book → Type 0
CloseRefused old lane result new = IfErr result (λ fault. CloseStops old lane fault × (new ≡ old))

abbrev pub CrashRefused : {A : Type 0} → Book → ℕ → Result A CrashFault → Book → Type 0
CrashRefused old keep result new = IfErr result (λ fault. CrashStops old keep fault × (new ≡ after_crash old fault))
