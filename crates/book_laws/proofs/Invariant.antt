-- what holds of every book
use Rattle.std.specs.Prelude.{◌≡◌, ◌≢◌, ◌⊎◌, ℕ, ◌+◌, ◌<◌, ◌≤◌, ◌^◌, true, List, [], ◌∷◌, ◌++◌, length, take, Some, None, IfSome, IsSome}
use Rattle.std.specs.List.{AllByRecursion}
use Rattle.nfs3_types.specs.declared.calls.NfsCall.{NfsCall}
use Rattle.nfs3_types.specs.declared.replies.NfsReply.{NfsReply}
use Rattle.nfs3_types.specs.declared.replies.Outcome.{Outcome}
use Rattle.nfs3_types.specs.declared.replies.Outcome.TheVariants as outcomes
use Rattle.tree_starts.specs.Start.{IsStart, object_made}
use Rattle.nfs_history.specs.declared.recorded.Meaning.TheVariants as meanings
use Rattle.nfs_history.specs.declared.recorded.RecordedCall.{RecordedCall}
use Rattle.nfs_history.specs.Precedence.{call_at, begin_of, end_of}
use Rattle.order_check.specs.Places.{may_take}
use Rattle.cut_check.specs.Verifier.{verifier_of}
use Rattle.replay_law.specs.Run as run
use Rattle.replay_law.specs.Run.{state_after}
use Rattle.tree_nodes.specs.Tree.{Tree}
use Rattle.tree_laws.specs.Outcomes.{count_written}
use Rattle.book_laws.specs.Placing.{Placed, is_recorded, records_in, front_with}
use Rattle.book_laws.specs.Book.{Book, Setting, handle_of, setting, next_by, tree_at_first, records_kept}
use Rattle.book_laws.specs.Steps.{IsDurable}
use Rattle.book_laws.proofs.Growing.{IsGenuine}

abbrev pub Over : Type 0
Over = run.Era NfsCall Outcome

-- a call got no reply as yet, or that with which it was placed
abbrev pub IsReplied : RecordedCall → Placed → Type 0
IsReplied call step = ((call.«end» ≡ None) × (call.outcome ≡ None)) ⊎ (IsSome call.«end» × (call.outcome ≡ Some step.outcome))

-- what is known of a call that was placed in this era
pub record IsKnown (calls : List RecordedCall) (era : ℕ) (step : Placed) : Type 0 where
  pub call : RecordedCall
  pub recorded : call_at calls step.number ≡ Some call
  pub now : call.era ≡ era
  pub judged : call.meaning ≡ meanings.Judged step.call
  pub reply : NfsReply
  pub received : step.outcome ≡ outcomes.Received reply
  pub replied : IsReplied call step
  pub takes : is_recorded step ≡ true → may_take (meanings.Judged step.call) (count_written step.outcome) ≡ true
  pub verifier : IfSome (verifier_of step.call step.outcome) (λ verifier. verifier ≡ era)

-- of all of an era
abbrev pub AreKnown : List RecordedCall → ℕ → List Placed → Type 0
AreKnown calls era steps = AllByRecursion (IsKnown calls era) steps

-- and of all eras, the first of which has this number
abbrev pub AllKnown : List RecordedCall → ℕ → List Over → List Placed → Type 0
AllKnown calls e [] placed = AreKnown calls e placed
AllKnown calls e (era ∷ over) placed = AreKnown calls e era.steps × AllKnown calls (e + 1) over placed

-- a call has its outcome with its end
abbrev pub IsPaired : RecordedCall → Type 0
IsPaired call = ((call.«end» ≡ None) × (call.outcome ≡ None)) ⊎ (IsSome call.«end» × IsSome call.outcome)

-- no two of these have one number
abbrev pub AreDistinct : List Placed → Type 0
AreDistinct [] = Unit {0}
AreDistinct (step ∷ steps) = AllByRecursion (λ other. other.number ≢ step.number) steps × AreDistinct steps

abbrev pub EachDistinct : List Over → List Placed → Type 0
EachDistinct [] placed = AreDistinct placed
EachDistinct (era ∷ over) placed = AreDistinct era.steps × EachDistinct over placed

-- a call was placed
abbrev pub IsPlacedIn : List Placed → ℕ → Type 0
IsPlacedIn [] number = ⊥
IsPlacedIn (step ∷ steps) number = (step.number ≡ number) ⊎ IsPlacedIn steps number

abbrev pub IsPlaced : List Over → List Placed → ℕ → Type 0
IsPlaced [] placed number = IsPlacedIn placed number
IsPlaced (era ∷ over) placed number = IsPlacedIn era.steps number ⊎ IsPlaced over placed number

-- of each two the later one ended behind the begin of the one ahead of it
abbrev pub AreInOrder : List RecordedCall → List Placed → Type 0
AreInOrder calls [] = Unit {0}
AreInOrder calls (step ∷ steps) =
    AllByRecursion (λ later. (at : ℕ) → end_of calls later.number ≡ Some at → begin_of calls step.number < at) steps × AreInOrder calls steps

abbrev pub AllInOrder : List RecordedCall → List Over → List Placed → Type 0
AllInOrder calls [] placed = AreInOrder calls placed
AllInOrder calls (era ∷ over) placed = AreInOrder calls era.steps × AllInOrder calls over placed

-- an object that stood at first, or that of a call which was placed
abbrev pub IsMade : ℕ → List Over → List Placed → ℕ → Type 0
IsMade first over placed object = ((object ≢ 0) × (object ≤ first)) ⊎ ((number : ℕ) × IsPlaced over placed number × (object_made first number ≡ object))

-- each era runs from what those ahead of it kept
abbrev pub AllRun : Setting → Tree → List Over → List Placed → Type 0
AllRun s tree [] placed = IsSome (state_after (next_by s) tree placed)
AllRun s tree (era ∷ over) placed =
    IsSome (state_after (next_by s) tree era.steps)
    × ((base : Tree) × (state_after (next_by s) tree (take era.kept era.steps) ≡ Some base) × AllRun s base over placed)

-- what was answered is durable: so many records were kept ahead of these, of all of which so many are on stable storage
abbrev pub AreDurable : List RecordedCall → ℕ → ℕ → List Placed → Type 0
AreDurable calls kept mark steps =
    (ahead : List Placed) (step : Placed) (behind : List Placed) → steps ≡ ahead ++ step ∷ behind → IsSome (end_of calls step.number) → IsDurable kept mark ahead step

-- an era that is over kept a front that ends with its last kept record, and what was durable is in it
pub record IsCutSafely (calls : List RecordedCall) (era : Over) : Type 0 where
  pub count : ℕ
  pub front : era.kept ≡ front_with count era.steps
  pub durable : AreDurable calls 0 count era.steps

pub record IsInvariant (book : Book) : Type 0 where
  pub genuine : IsGenuine book.history
  pub root : book.history.known.head.root ≡ handle_of 0
  pub start : IsStart book.history.known.head.start
  pub eras : book.history.known.eras ≡ length book.over + 1
  pub known : AllKnown book.history.known.calls 1 book.over book.placed
  pub distinct : EachDistinct book.over book.placed
  -- each call that was answered has been placed
  pub complete : (n : ℕ) (call : RecordedCall) → call_at book.history.known.calls n ≡ Some call → IsSome call.outcome → IsPlaced book.over book.placed n
  -- it has an outcome where it ended
  pub paired : AllByRecursion IsPaired book.history.known.calls
  -- all began before now
  pub begun : AllByRecursion (λ call. call.begin ≤ length book.history.events) book.history.known.calls
  pub ordered : AllInOrder book.history.known.calls book.over book.placed
  pub runs : AllRun (setting book) (tree_at_first book) book.over book.placed
  pub made : AllByRecursion (λ object. IsMade (length book.history.known.head.start) book.over book.placed object × (object < 2 ^ 64)) book.made
  pub cuts : AllByRecursion (IsCutSafely book.history.known.calls) book.over
  pub durable : AreDurable book.history.known.calls (records_kept book) book.device.mark book.placed
  -- the device holds the records of what was kept, and of what was placed since
  pub records : length book.device.records ≡ records_kept book + records_in book.placed
  pub mark : (records_kept book ≤ book.device.mark) × (book.device.mark ≤ length book.device.records)
