-- a walk that comes to nothing shows that there is no witness
use Rattle.std.proofs.Common.{◌≡◌, ℕ, Bool, List, length, Option, Some, None, Result, Ok, Err, IfOk, sym, subst}
use Rattle.std.specs.Prelude.{IfSome}
use Rattle.nfs_history.specs.declared.knowing.KnownCalls.{KnownCalls}
use Rattle.nfs_history.specs.HistoryValue.{HistoryValue}
use Rattle.nfs_history.specs.History.{recording_of, IsHistory}
use Rattle.certificate.specs.declared.plan.Certificate.{Certificate}
use Rattle.decision_core.specs.declared.deciding.Event.{Event}
use Rattle.decision_core.specs.declared.deciding.Walked.{Walked}
use Rattle.decision_core.specs.declared.deciding.Walked.TheVariants.{NoWitness, Left}
use Rattle.decision_core.specs.Times.{Times}
use Rattle.decision_core.specs.Decide.{IsWitness}
use Rattle.decision_core.specs.Eras.{is_placed, order_of}
use Rattle.decision_core.specs.Events.{Tells}
use Rattle.decision_core.specs.declared.spans.Span.{Span}
use Rattle.decision_core.specs.Spanned.{AreSpansOf}
use Rattle.decision_core.specs.Walked.{IfNoWitness, NamesAnswer}
use Rattle.history_file.specs.Owning.{all_happened}
use Rattle.decide.specs.Spanning.{crash_list, all_spans}
use Rattle.decide.proofs.Named.{named_at}
use Rattle.decide.proofs.SpanLaws.{spans_are_of_times}
use Rattle.decision_walk.specs.decision_law_specs.Laws.{binds_of}
use Rattle.decision_walk.specs.decision_law_specs.Machine.{Next, first_point}
use Rattle.decision_walk.specs.decision_law_specs.Plans.{eras_of_plan}
use Rattle.decision_walk.specs.decision_law_specs.Times.{era_start, numbering_of, times_of}
use Rattle.decision_walk.proofs.decision_law_laws.Orders.{is_order}
use Rattle.decision_walk.proofs.decision_law_laws.Starts.{are_timed}
use Rattle.decision_walk.specs.Standing.{hints_of}
use Rattle.decide.specs.Decision.{HasNoWitness, Walks, TellsOf}
use Rattle.decide.specs.Marking.{AreNeverLost}
use Rattle.decide.proofs.Lasting.{are_right}

-- that no order is a witness under any plan
abbrev pub NoOrders : KnownCalls → List Bool → List Event → Type 0
NoOrders known marks events = (plan : Certificate) (times : Times) → Tells times events
    → (order : List ℕ) → ¬ IsWitness is_placed (Next known (hints_of marks) (binds_of known plan)) times (first_point known) order

none_left : (history : HistoryValue) (marks : List Bool) (events : List Event) → AreNeverLost history.known marks → TellsOf history events → NoOrders history.known marks events → HasNoWitness history.known
none_left history marks events kept tells none plan witness =
    none plan (times_of history.known (era_start (recording_of history).events)) tells.tells (order_of (numbering_of history.known (hints_of marks)) 1 (eras_of_plan plan.eras))
    (is_order history.known (hints_of marks) (era_start (recording_of history).events) plan tells.timed (are_right history.known marks kept) witness)

walks : {State : Type 0} (history : HistoryValue) (marks : List Bool) (events : List Event) → AreNeverLost history.known marks → TellsOf history events
    → (walked : Walked State) → NamesAnswer events walked → IfNoWitness (NoOrders history.known marks events) walked → Walks history.known walked
walks history marks events kept tells (NoWitness event call) named none = (none_left history marks events kept tells none, named_at history events event call tells named.0 named.1)
walks history marks events kept tells (Left states) named none = tt

-- so does a walk's answer, of a machine with the same history and marks
pub answer_walks : {State E : Type 0} (history machines : HistoryValue) (marks machine_marks : List Bool) (events : List Event) → machines ≡ history → machine_marks ≡ marks → AreNeverLost history.known marks
    → TellsOf history events → (r : Result (Walked State) E) → IfOk r (NamesAnswer events) → IfOk r (IfNoWitness (NoOrders machines.known machine_marks events)) → IfOk r (Walks history.known)
answer_walks history machines marks machine_marks events same same_marks kept tells (Ok walked) named none =
    walks history marks events kept tells walked named
    (subst (λ m. IfNoWitness (NoOrders history.known m events) walked) same_marks (subst (λ (h : HistoryValue). IfNoWitness (NoOrders h.known machine_marks events) walked) same none))
answer_walks history machines marks machine_marks events same same_marks kept tells (Err stop) named none = none

-- events that are made of the spans of a history tell its times
pub events_tell : {V E : Type 0} (items : V → List Event) (history : HistoryValue) (marks : List ℕ) (spans : List Span) → IsHistory (recording_of history) history
    → marks ≡ crash_list 1 (all_happened history.events) → length marks ≡ history.known.eras → spans ≡ all_spans history.known marks → (r : Result (Option V) E)
    → IfOk r (λ found. IfSome found (λ v. (times : Times) → AreSpansOf times spans → Tells times (items v))) → IfOk r (λ found. IfSome found (λ v. TellsOf history (items v)))
events_tell items history marks spans whole are many is (Ok None) told = told
events_tell items history marks spans whole are many is (Err error) told = told
events_tell items history marks spans whole are many is (Ok (Some v)) told =
    let timed = are_timed (recording_of history).events history.known whole.known.calls in
    let of_times = spans_are_of_times history.known (recording_of history).events marks are many timed in
    record { timed = timed; tells = told (times_of history.known (era_start (recording_of history).events)) (subst (AreSpansOf (times_of history.known (era_start (recording_of history).events))) (sym is) of_times) }
