-- Believed.
-- What a server does with its book at one hold of the book's lock: the step that was asked for, or what its refusal leaves.
use Rattle.std.specs.Prelude.{◌≡◌, ◌⊎◌, ◌+◌, ◌<◌, ◌≤◌, ℕ, List, true, length, min, Bool, Option, Some, None}
use Rattle.std.specs.declared.vec.Vec.{Vec}
use Rattle.std.specs.declared.alloc.Global.{Global}
use Rattle.nfs3_types.specs.declared.replies.NfsReply.{NfsReply}
use Rattle.recorder.specs.book_laws_specs.Book.{Book}
use Rattle.recorder.specs.book_laws_specs.Steps.{Places, Flushes, Answers}
use Rattle.recorder.specs.book_ledger_specs.Sending.{IsSent}
use Rattle.recorder.specs.book_ledger_specs.Refusals.{BeginStops, PlaceStops, FlushStops, AnswerStops, CloseStops, CrashStops, after_place, after_flush, after_crash}
use Rattle.journal_server.specs.declared.fault.CallFault.{CallFault}
use Rattle.journal_server.specs.declared.fault.CallFault.TheVariants as call_fault
use Rattle.journal_server.specs.declared.fault.CrashFault as own
use Rattle.journal_server.specs.declared.fault.CrashFault.TheVariants as crash_fault
use Rattle.journal_server.specs.FaultText.{begin_told, place_told, answer_told, close_told, crash_told}

-- a fault of the book, of which this holds, was told so
abbrev pub Tells : {F G : Type 0} → (F → G) → (F → Type 0) → G → Type 0
Tells {F} tells Says told = (fault : F) × (told ≡ tells fault) × Says fault

-- the objects are lost, so that nothing is asked of the book
abbrev pub IsLost : {G : Type 0} → Bool → G → Book → G → Book → Type 0
IsLost lost down old told new = (lost ≡ true) × (told ≡ down) × (new ≡ old)

abbrev pub BeginRefused : Bool → Book → ℕ → List ℕ → CallFault → Book → Type 0
BeginRefused lost old lane message told new = IsLost lost call_fault.Down old told new ⊎ Tells begin_told (λ fault. BeginStops old lane message fault × (new ≡ old)) told

abbrev pub PlaceRefused : Book → ℕ → NfsReply → CallFault → Book → Type 0
PlaceRefused old number reply told new = Tells place_told (λ fault. PlaceStops old number reply fault × (new ≡ after_place old fault)) told

-- the call is placed with this reply, and answered with this message; without one it stays placed
abbrev pub HasReplied : Book → ℕ → NfsReply → Book → Option (Vec ℕ Global) → Type 0
HasReplied old number reply new (Some message) = (placed : Book) × Places old number reply placed × Answers placed number new × IsSent placed.history message.items new.history
HasReplied old number reply new None = Places old number reply new

-- so many records are on stable storage: they were, or all are now
abbrev pub IsSettled : ℕ → Book → Book → Type 0
IsSettled records old new = ((old.device.mark < records) × Flushes old new) ⊎ ((records ≤ old.device.mark) × (new ≡ old))

abbrev pub FlushRefused : ℕ → Book → CallFault → Book → Type 0
FlushRefused records old told new = (old.device.mark < records) × Tells (λ _. call_fault.Down) (λ fault. FlushStops old fault × (new ≡ after_flush old fault)) told

abbrev pub AnswerRefused : Book → ℕ → CallFault → Book → Type 0
AnswerRefused old number told new = Tells answer_told (λ fault. AnswerStops old number fault × (new ≡ old)) told

abbrev pub CloseRefused : Book → ℕ → CallFault → Book → Type 0
CloseRefused old lane told new = Tells close_told (λ fault. CloseStops old lane fault × (new ≡ old)) told

-- a crash keeps the records on stable storage, and at most so many more
abbrev pub kept_of : Book → ℕ → ℕ
kept_of old extra = min (old.device.mark + extra) (length old.device.records)

abbrev pub CrashRefused : Bool → Book → ℕ → own.CrashFault → Book → Type 0
CrashRefused lost old extra told new =
    IsLost lost crash_fault.Down old told new ⊎ Tells crash_told (λ fault. CrashStops old (kept_of old extra) fault × (new ≡ after_crash old fault)) told
