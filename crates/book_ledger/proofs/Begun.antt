-- why a call doesn't begin
use Rattle.std.proofs.Common.{◌≡◌, ◌⊎◌, inl, inr, ℕ, ◌+◌, Bool, true, List, [], ◌∷◌, ◌++◌, length, Result, Ok, Err, sym, ap, ◌∙◌, subst, append-nil}
use Rattle.std.specs.Prelude.{IfErr, IfOk, if◌then◌else◌}
use Rattle.std.proofs.lemmas.List.{append_assoc}
use Rattle.nfs3_types.specs.declared.calls.NfsCall.{NfsCall}
use Rattle.nfs_history.specs.History.{Asks}
use Rattle.book_laws.specs.Steps.{IsRecordable}
use Rattle.history_file.specs.declared.event.Event.TheVariants as owns
use Rattle.history_file.specs.Event.{Event}
use Rattle.history_file.specs.Event.Event.{call}
use Rattle.history_file.specs.Owning.{all_happened}
use Rattle.nfs_history.specs.declared.fault.EventFault.{EventFault}
use Rattle.nfs_history.specs.declared.fault.CallFault.{CallFault}
use Rattle.nfs_history.specs.declared.fault.CallFault.TheVariants as call_faults
use Rattle.nfs_history.specs.declared.fault.HistoryFault.{HistoryFault}
use Rattle.nfs_history.specs.declared.fault.HistoryFault.TheVariants as history_faults
use Rattle.nfs_history.specs.HistoryValue.{HistoryValue}
use Rattle.nfs_history.specs.Appending.{with_event}
use Rattle.nfs_history.specs.Calls.{xid_of}
use Rattle.nfs_history.specs.EventFaults.{IsAtFault, FirstEventFault}
use Rattle.nfs_history.specs.FirstFault.{FirstFaultOf}
use Rattle.nfs_history.specs.JoinedFaults.{of_event, of_call}
use Rattle.nfs_history.specs.Standing.{IsClosed, has_unanswered, EachMayFollow}
use Rattle.nfs_history.proofs.EventFaultLaws.{first_fault_or_fine}
use Rattle.journal.specs.Device.{Device}
use Rattle.book_ledger.specs.declared.fault.BeginFault.{BeginFault}
use Rattle.book_ledger.specs.declared.fault.BeginFault.TheVariants as faults
use Rattle.book_ledger.specs.declared.placed.Condition.TheVariants as codes
use Rattle.book_ledger.specs.declared.ledger.Ledger.{Ledger}
use Rattle.book_ledger.specs.Recordable.{CanBeRecorded, IsKeptAsked, TakeStops, stop_of}
use Rattle.book_ledger.specs.Refusals.{BeginStops}
use Rattle.book_ledger.specs.Inside.{condition_of, book_of, AreTied, Holds}
use Rattle.book_ledger.proofs.Runs.{sound}

-- what is asked of the history
pub asks_so : (message : List ℕ) (asked : NfsCall) → IsRecordable message asked → Asks message asked
asks_so message asked is = record { head = is.head; is_call = is.is_call; of_nfs = is.of_nfs; inside = is.inside }

pub recordable_so : (message : List ℕ) (asked : NfsCall) → IsRecordable message asked → CanBeRecorded message
recordable_so message asked is = record { call = asked; recordable = is; within = is.within }

pub pushed_within : {X : Type 0} (items before after : List X) (one : X) (fits : Bool) → before ≡ items → after ≡ (if fits then before ++ one ∷ [] else before) → fits ≡ true → after ≡ items ++ one ∷ []
pushed_within {X} items before after one fits e f is = f ∙ ap (λ (b : Bool). if b then before ++ one ∷ [] else before) is ∙ ap (λ (xs : List X). xs ++ one ∷ []) e

-- the last of events that all may follow but for it is at fault
at_last : (before events : List Event) (e : Event) (fault : EventFault) → FirstEventFault before (events ++ e ∷ []) fault → EachMayFollow before events → (n : ℕ) × IsAtFault n (before ++ events) e fault
at_last before [] e fault (inl at) all = (length before + 1, subst (λ (b : List Event). IsAtFault (length before + 1) b e fault) (sym (append-nil before)) at)
at_last before [] e fault (inr rest) all = absurd rest.1
at_last before (x ∷ events) e fault (inl at) all = absurd (first_fault_or_fine before (x ∷ []) fault (inl at) (all.0, tt))
at_last before (x ∷ events) e fault (inr rest) all =
    let last = at_last (before ++ x ∷ []) events e fault rest.1 all.1 in
    (last.0, subst (λ (b : List Event). IsAtFault last.0 b e fault) (append_assoc before (x ∷ []) events) last.1)

no_call : (n : ℕ) (fault : CallFault) → history_faults.XidInUse n ≡ of_call fault → ⊥
no_call n (call_faults.Sealed m) e = cc
no_call n (call_faults.BadArgs m) e = cc
no_call n (call_faults.BadResult m) e = cc
no_call n (call_faults.Outside m which) e = cc

module _ (history : HistoryValue) (lane : ℕ) (message : List ℕ) where
  abbrev before : List Event
  before = all_happened history.events

  in_use : (n i : ℕ) (fault : EventFault) → IsAtFault n before (call lane message) fault → history_faults.XidInUse i ≡ of_event fault → has_unanswered lane (xid_of message) before ≡ true
  in_use n i fault (inl closed) e = absurd (other (e ∙ ap of_event closed.1)) where
    other : history_faults.XidInUse i ≡ history_faults.LaneClosed n → ⊥
    other f = cc
  in_use n i fault (inr (inl bad)) e = absurd (other (e ∙ ap of_event bad.2)) where
    other : history_faults.XidInUse i ≡ history_faults.BadRpc n → ⊥
    other f = cc
  in_use n i fault (inr (inr used)) e = used.2

  used_so : (i : ℕ) → FirstFaultOf (with_event history (owns.Call lane message)).events (history_faults.XidInUse i) → EachMayFollow [] before → has_unanswered lane (xid_of message) before ≡ true
  used_so i (inl first) all = let last = at_last [] before (call lane message) first.0 first.1 all in in_use last.0 i first.0 last.1 first.2
  used_so i (inr first) all = absurd (no_call i first.0 first.3)

  pub stop_so : (fault : HistoryFault) → (fault ≡ history_faults.NoMemory) ⊎ FirstFaultOf (with_event history (owns.Call lane message)).events fault → TakeStops history lane message (stop_of fault)
  stop_so (history_faults.XidInUse i) (inl e) = absurd (cc)
  stop_so (history_faults.XidInUse i) (inr first) = λ all. used_so i first all
  stop_so _ is = tt

module _ (old : Ledger) (lane : ℕ) (message : List ℕ) (runs : old.condition ≡ codes.Running) (is_open : ¬ IsClosed lane (all_happened old.history.events)) where
  pub taken_stops : (device : Device) → AreTied old device → CanBeRecorded message → (fault : BeginFault) → TakeStops old.history lane message fault → BeginStops (book_of old device) lane message fault
  taken_stops device t r faults.XidInUse used = (ap condition_of runs, is_open, r, used (sound (book_of old device) t.reached).invariant.genuine.is_history.known.follow)
  taken_stops device t r faults.NoMemory stop = (ap condition_of runs, is_open)
  taken_stops device t r _ never = absurd never

  pub kept_ok : (r : Result NfsCall BeginFault) → IsKeptAsked message r → IfOk r (λ call. (old.condition ≡ codes.Running) × (¬ IsClosed lane (all_happened old.history.events)) × IsRecordable message call)
  kept_ok (Ok x) is = (runs, is_open, is)
  kept_ok (Err fault) is = tt

  pub kept_err : (r : Result NfsCall BeginFault) → IsKeptAsked message r → IfErr r (λ fault. Holds (λ book. BeginStops book lane message fault) old)
  kept_err (Ok x) is = tt
  kept_err (Err faults.BadRecord) is = λ device t. (ap condition_of runs, is_open, is)
  kept_err (Err faults.NoMemory) is = λ device t. (ap condition_of runs, is_open)
  kept_err (Err _) never = absurd never
