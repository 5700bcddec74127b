-- A history with one event more.
use Rattle.std.proofs.Common.{◌≡◌, ◌⊎◌, inl, inr, ℕ, zero, suc, ◌+◌, ◌-◌, ◌<◌, ◌≤◌, Bool, true, false, cond, is_some, List, [], ◌∷◌, ◌++◌, length, map, get_or, set, Option, Some, None, option_map, Result, Ok, Err, refl, sym, ap, subst, ◌∙◌, arith, append_assoc, append-nil, add-zero, if◌then◌else◌, IfOk, OnOk}
use Rattle.std.specs.List.{AllByRecursion, slice_get}
use Rattle.std.specs.HashMap.{get}
use Rattle.std.proofs.lemmas.Bool.{eq-eqb, ne_eqb, false≢true}
use Rattle.std.proofs.lemmas.List.{length-map, map_push}
use Rattle.std.proofs.lemmas.Option.{same_Some}
use Rattle.history_file.specs.tree_starts_specs.Head.{Head}
use Rattle.history_file.specs.declared.event.Event as owned
use Rattle.history_file.specs.declared.event.Event.TheVariants as owns
use Rattle.history_file.specs.Event.{Event, Recording}
use Rattle.history_file.specs.Event.Event.{call, reply, close, crash}
use Rattle.history_file.specs.Owning.{happened, all_happened}
use Rattle.nfs_history.specs.declared.checking.OpenCalls.{OpenCalls}
use Rattle.nfs_history.specs.declared.fault.EventFault.{EventFault}
use Rattle.nfs_history.specs.declared.fault.CallFault.{CallFault}
use Rattle.nfs_history.specs.declared.fault.HistoryFault.{HistoryFault}
use Rattle.nfs_history.specs.declared.fault.HistoryFault.TheVariants as faults
use Rattle.nfs_history.specs.declared.recorded.RecordedCall.{RecordedCall}
use Rattle.nfs_history.specs.declared.judging.Stop.{Stop}
use Rattle.nfs_history.specs.declared.judging.Stop.TheVariants as stops
use Rattle.nfs_history.specs.HistoryValue.{HistoryValue}
use Rattle.nfs_history.specs.Answers.{IsFineOrNoMemory, IsErrorOf, IsThatOrNoMemory}
use Rattle.nfs_history.specs.Appending.{with_event, unanswered, IsQuiet, AreCallsWith, Follows, Appends}
use Rattle.nfs_history.specs.Calls.{ReplyEvent, CallEvent, calls_from, calls_of, eras_from, xid_of}
use Rattle.nfs_history.specs.CallFaults.{IsCallFault, IsFine, FirstCallFault}
use Rattle.nfs_history.specs.Checking.{is_place, AnswersWait, Knows, KnowsOneMore, KnowsAsMuch}
use Rattle.nfs_history.specs.EventFaults.{IsAtFault, FirstEventFault}
use Rattle.nfs_history.specs.FirstFault.{FirstFaultOf}
use Rattle.nfs_history.specs.History.{IsRecorded, AreRecorded, IsHistory, recording_of}
use Rattle.nfs_history.specs.Inside.{history_of, IsOpenAt}
use Rattle.nfs_history.specs.JoinedFaults.{of_event}
use Rattle.nfs_history.specs.Judging.{IsFound, IsReadable, AreReadable, IsStopFor, of_stop}
use Rattle.nfs_history.specs.Matching.{same_key}
use Rattle.nfs_history.specs.Standing.{is_unanswered, MayFollow, EachMayFollow}
use Rattle.nfs_history.proofs.CallFaultLaws.{all_fine}
use Rattle.nfs_history.proofs.CallFaultTable.{call_fault_found}
use Rattle.nfs_history.proofs.FirstFaultLaws.{calls_readable, fault_or_calls, one_first_of}
use Rattle.nfs_history.proofs.JudgingSteps.{AreRecorded-push}
use Rattle.nfs_history.proofs.Lanes.{eras_few}
use Rattle.nfs_history.proofs.Unanswered.{calls_from-quiet}
use Rattle.nfs_history.proofs.Waiting.{one_further, new_call, calls_from-call, answered_if, calls_from-reply}

-- ---- one event more

follow_push : (before events : List Event) (e : Event) → EachMayFollow before events → MayFollow (before ++ events) e → EachMayFollow before (events ++ e ∷ [])
follow_push before [] e all may = (subst (λ (b : List Event). MayFollow b e) (append-nil before) may, tt)
follow_push before (f ∷ events) e all may =
    (all.0, follow_push (before ++ f ∷ []) events e all.1 (subst (λ (b : List Event). MayFollow b e) (sym (append_assoc before (f ∷ []) events)) may))

fault_push : (before events : List Event) (e : Event) (fault : EventFault) → EachMayFollow before events → IsAtFault (length (before ++ events) + 1) (before ++ events) e fault → FirstEventFault before (events ++ e ∷ []) fault
fault_push before [] e fault all at = inl (subst (λ (b : List Event). IsAtFault (length b + 1) b e fault) (append-nil before) at)
fault_push before (f ∷ events) e fault all at =
    inr (all.0, fault_push (before ++ f ∷ []) events e fault all.1 (subst (λ (b : List Event). IsAtFault (length b + 1) b e fault) (sym (append_assoc before (f ∷ []) events)) at))

-- the event that comes next is at fault
pub next_fault : (events : List Event) (e : Event) (fault : EventFault) → EachMayFollow [] events → IsAtFault (length events + 1) events e fault → FirstFaultOf (events ++ e ∷ []) (of_event fault)
next_fault events e fault all at = inl (fault, fault_push [] events e fault all at, refl)

-- the call that it begins or answers is
pub next_stop : (events : List Event) (e : Event) (stop : Stop) → EachMayFollow [] events → MayFollow events e
    → IsStopFor {X = Unit {0}} (FirstCallFault 1 (calls_of (events ++ e ∷ []))) (Err stop) → (of_stop stop ≡ faults.NoMemory) ⊎ FirstFaultOf (events ++ e ∷ []) (of_stop stop)
next_stop events e stops.NoMemory all may h = inl refl
next_stop events e (stops.Fault fault) all may h = inr (inr (fault, follow_push [] events e all may, h, refl))

-- ---- calls at fault

fault_behind : (n : ℕ) (events : List CallEvent) (e : CallEvent) (fault : CallFault) → AllByRecursion IsFine events → IsCallFault (n + length events) e fault → FirstCallFault n (events ++ e ∷ []) fault
fault_behind n [] e fault fine at = inl (subst (λ k. IsCallFault k e fault) (add-zero n) at)
fault_behind n (d ∷ events) e fault fine at =
    inr (fine.0, fault_behind (n + 1) events e fault fine.1 (subst (λ k. IsCallFault k e fault) (sym (one_further n (length events))) at))

-- no call of the list is answered
none_answered : (l x place k : ℕ) (r : ReplyEvent) (events : List CallEvent) → AnswersWait l x (Some place) k events → place < k → map (answered_if l x r) events ≡ events
none_answered l x place k r [] waits lt = refl
none_answered l x place k r (c ∷ events) waits lt =
    let not_here : is_unanswered l x c ≡ false = waits.0 ∙ ne_eqb k place (λ same. omega arith) in
    ap (λ b. cond b (record c { answer = Some r }) c ∷ map (answered_if l x r) events) not_here
    ∙ ap (λ (es : List CallEvent). c ∷ es) (none_answered l x place (k + 1) r events waits.1 (omega (arith, lt)))

-- the call with this reply
abbrev pub answered_by : ReplyEvent → CallEvent → CallEvent
answered_by r c = record c { answer = Some r }

-- the call at the place j is answered
answered_one : (l x k : ℕ) (r : ReplyEvent) (c : CallEvent) (events : List CallEvent) → is_unanswered l x c ≡ is_place k (Some (k + 0)) → AnswersWait l x (Some (k + 0)) (k + 1) events → map (answered_if l x r) (c ∷ events) ≡ answered_by r c ∷ events
answered_one l x k r c events is waits =
    let here : is_unanswered l x c ≡ true = is ∙ eq-eqb k (k + 0) (sym (add-zero k)) in
    ap (λ b. cond b (answered_by r c) c ∷ map (answered_if l x r) events) here
    ∙ ap (λ (es : List CallEvent). answered_by r c ∷ es) (none_answered l x (k + 0) (k + 1) r events waits (omega arith))

other_one : (l x k j : ℕ) (r : ReplyEvent) (c : CallEvent) → is_unanswered l x c ≡ is_place k (Some (k + suc j)) → answered_if l x r c ≡ c
other_one l x k j r c is = ap (λ b. cond b (answered_by r c) c) (is ∙ ne_eqb k (k + suc j) (λ same. omega arith))

waits_further : (l x k j : ℕ) (events : List CallEvent) → AnswersWait l x (Some (k + suc j)) (k + 1) events → AnswersWait l x (Some ((k + 1) + j)) (k + 1) events
waits_further l x k j events = subst (λ n. AnswersWait l x (Some n) (k + 1) events) (sym (one_further k j))

recorded_answered : (l x k j : ℕ) (r : ReplyEvent) (events : List CallEvent) (calls : List RecordedCall) (e : CallEvent) (new : RecordedCall) → AreRecorded events calls → AnswersWait l x (Some (k + j)) k events
    → slice_get events j ≡ Some e → IsRecorded (answered_by r e) new → AreRecorded (map (answered_if l x r) events) (set calls j new)
recorded_answered l x k j r [] calls e new all waits at is = absurd (cc)
recorded_answered l x k j r (c ∷ events) [] e new all waits at is = absurd all
recorded_answered l x k zero r (c ∷ events) (d ∷ calls) e new all waits at is =
    let same : c ≡ e = same_Some c e at in
    subst (λ es. AreRecorded es (new ∷ calls)) (sym (answered_one l x k r c events waits.0 waits.1))
    (subst (λ (x : CallEvent). IsRecorded (answered_by r x) new) (sym same) is, all.1)
recorded_answered l x k (suc j) r (c ∷ events) (d ∷ calls) e new all waits at is = (
  subst (λ (x : CallEvent). IsRecorded x d) (sym (other_one l x k j r c waits.0)) all.0,
  recorded_answered l x (k + 1) j r events calls e new all.1 (waits_further l x k j events waits.1) at is,
)

fault_answered : (n l x k j : ℕ) (r : ReplyEvent) (events : List CallEvent) (e : CallEvent) (fault : CallFault) → AllByRecursion IsFine events → AnswersWait l x (Some (k + j)) k events
    → slice_get events j ≡ Some e → IsCallFault (n + j) (answered_by r e) fault → FirstCallFault n (map (answered_if l x r) events) fault
fault_answered n l x k j r [] e fault fine waits at is = absurd (cc)
fault_answered n l x k zero r (c ∷ events) e fault fine waits at is =
    let same : c ≡ e = same_Some c e at in
    subst (λ es. FirstCallFault n es fault) (sym (answered_one l x k r c events waits.0 waits.1))
    (inl (subst (λ (x : CallEvent). IsCallFault n (answered_by r x) fault) (sym same) (subst (λ m. IsCallFault m (answered_by r e) fault) (add-zero n) is)))
fault_answered n l x k (suc j) r (c ∷ events) e fault fine waits at is =
    inr (
      subst IsFine (sym (other_one l x k j r c waits.0)) fine.0,
      fault_answered (n + 1) l x (k + 1) j r events e fault fine.1 (waits_further l x k j events waits.1) at (subst (λ m. IsCallFault m (answered_by r e) fault) (sym (one_further n j)) is),
    )

-- ---- where the calls stand

recorded_length : (events : List CallEvent) (calls : List RecordedCall) → AreRecorded events calls → length events ≡ length calls
recorded_length [] [] all = refl
recorded_length [] (c ∷ calls) all = absurd all
recorded_length (e ∷ events) [] all = absurd all
recorded_length (e ∷ events) (c ∷ calls) all = ap (λ n. suc n) (recorded_length events calls all.1)

-- the event of a call, and what is known of it
pub record IsAsked (events : List CallEvent) (place : ℕ) (asked : RecordedCall) : Type 0 where
  pub event : CallEvent
  pub at : slice_get events place ≡ Some event
  pub recorded : IsRecorded event asked

asked_at : (events : List CallEvent) (calls : List RecordedCall) (place : ℕ) (asked : RecordedCall) → AreRecorded events calls → place < length calls → asked ≡ get_or calls place asked → IsAsked events place asked
asked_at [] [] place asked all lt is = absurd (omega arith)
asked_at [] (c ∷ calls) place asked all lt is = absurd all
asked_at (e ∷ events) [] place asked all lt is = absurd all
asked_at (e ∷ events) (c ∷ calls) zero asked all lt is = record { event = e; at = refl; recorded = subst (IsRecorded e) (sym is) all.0 }
asked_at (e ∷ events) (c ∷ calls) (suc place) asked all lt is =
    let rest = asked_at events calls place asked all.1 (omega arith) is in
    record { event = rest.event; at = rest.at; recorded = rest.recorded }

-- a call's message stands where it began
pub record StandsAt (i : ℕ) (events : List Event) (c : CallEvent) : Type 0 where
  pub place : ℕ
  pub begin : c.begin ≡ i + place
  pub event : slice_get events place ≡ Some (call c.lane c.message)

one_later : (i : ℕ) (e : Event) (events : List Event) (c : CallEvent) → StandsAt (i + 1) events c → StandsAt i (e ∷ events) c
one_later i e events c stands = record { place = suc stands.place; begin = stands.begin ∙ one_further i stands.place; event = stands.event }

stands_at : (i era : ℕ) (events : List Event) (j : ℕ) (c : CallEvent) → slice_get (calls_from i era events) j ≡ Some c → StandsAt i events c
stands_at i era [] j c is = absurd (cc)
stands_at i era (reply l m ∷ events) j c is = one_later i (reply l m) events c (stands_at (i + 1) era events j c is)
stands_at i era (close l ∷ events) j c is = one_later i (close l) events c (stands_at (i + 1) era events j c is)
stands_at i era (crash ∷ events) j c is = one_later i crash events c (stands_at (i + 1) (era + 1) events j c is)
stands_at i era (call l m ∷ events) (suc j) c is = one_later i (call l m) events c (stands_at (i + 1) era events j c is)
stands_at i era (call l m ∷ events) zero c is =
    subst (StandsAt i (call l m ∷ events)) (same_Some _ c is) (record { place = 0; begin = sym (add-zero i); event = refl })

-- ---- what is known of a history

-- the call that comes next
pub begun_calls : (h : HistoryValue) (known : OpenCalls) (lane : ℕ) (message : List ℕ) → IsOpenAt h known
    → calls_of (all_happened h.events ++ call lane message ∷ []) ≡ calls_of (all_happened h.events) ++ new_call lane message (length h.events + 1) known.era ∷ []
begun_calls h known lane message is =
    let number : 1 + length (all_happened h.events) ≡ length h.events + 1 = omega (arith, length-map h.events happened) in
    calls_from-call 1 1 (all_happened h.events) lane message
    ∙ ap (λ n. calls_of (all_happened h.events) ++ new_call lane message n (eras_from 1 (all_happened h.events)) ∷ []) number
    ∙ ap (λ n. calls_of (all_happened h.events) ++ new_call lane message (length h.events + 1) n ∷ []) (sym is.knows.era)

pub begun_found : (h : HistoryValue) (known : OpenCalls) (lane : ℕ) (message : List ℕ) (begun : RecordedCall) → IsOpenAt h known
    → IsRecorded (new_call lane message (length h.events + 1) known.era) begun → AreCallsWith h (call lane message) (h.known.calls ++ begun ∷ [])
begun_found h known lane message begun is recorded =
    subst (λ es. AreRecorded es (h.known.calls ++ begun ∷ [])) (sym (begun_calls h known lane message is))
    (AreRecorded-push (calls_of (all_happened h.events)) h.known.calls (new_call lane message (length h.events + 1) known.era) begun is.history.known.calls recorded)

pub begun_stop : (h : HistoryValue) (known : OpenCalls) (lane : ℕ) (message : List ℕ) (number : ℕ) (stop : Stop) → IsOpenAt h known → number ≡ length h.known.calls + 1
    → IsStopFor {X = Unit {0}} (IsFound number (new_call lane message (length h.events + 1) known.era)) (Err stop)
    → IsStopFor {X = Unit {0}} (FirstCallFault 1 (calls_of (all_happened h.events ++ call lane message ∷ []))) (Err stop)
begun_stop h known lane message number stops.NoMemory is at found = tt
begun_stop h known lane message number (stops.Fault fault) is at found =
    let events = calls_of (all_happened h.events) in
    let begun = new_call lane message (length h.events + 1) known.era in
    let place : number ≡ 1 + length events = omega (arith, at, recorded_length events h.known.calls is.history.known.calls) in
    subst (λ es. FirstCallFault 1 es fault) (sym (begun_calls h known lane message is))
    (fault_behind 1 events begun fault (all_fine events h.known.calls is.history.known.calls) (call_fault_found (1 + length events) begun fault (subst (λ n. IsFound n begun fault) place found)))

-- the call that a reply answers
pub place_within : (h : HistoryValue) (known : OpenCalls) (lane xid place : ℕ) → IsOpenAt h known → get same_key known.unanswered (lane, xid) ≡ Some place → place < length h.known.calls
place_within h known lane xid place is at =
    omega (arith, is.knows.within lane xid place at, is.knows.calls, recorded_length (calls_of (all_happened h.events)) h.known.calls is.history.known.calls)

pub place_there : (h : HistoryValue) (known : OpenCalls) (lane : ℕ) (message : List ℕ) → IsOpenAt h known → MayFollow (all_happened h.events) (reply lane message) → get same_key known.unanswered (lane, xid_of message) ≡ None → ⊥
place_there h known lane message is may none =
    let some : is_some (get same_key known.unanswered (lane, xid_of message)) ≡ true = is.knows.unanswered lane (xid_of message) ∙ may.2 in
    false≢true (sym (ap is_some none) ∙ some)

answered_calls : (h : HistoryValue) (lane : ℕ) (message : List ℕ)
    → calls_of (all_happened h.events ++ reply lane message ∷ []) ≡ map (answered_if lane (xid_of message) (record { number = length h.events + 1; message = message })) (calls_of (all_happened h.events))
answered_calls h lane message =
    let number : 1 + length (all_happened h.events) ≡ length h.events + 1 = omega (arith, length-map h.events happened) in
    calls_from-reply 1 1 (all_happened h.events) lane message
    ∙ ap (λ n. map (answered_if lane (xid_of message) (record { number = n; message = message })) (calls_of (all_happened h.events))) number

-- the event of a call that was seen without its reply
seen_event_of : (o : Option CallEvent) (asked : CallEvent) → Some asked ≡ option_map unanswered o → (e : CallEvent) × (o ≡ Some e) × (unanswered e ≡ asked)
seen_event_of None asked is = absurd (cc)
seen_event_of (Some e) asked is = (e, refl, same_Some (unanswered e) asked (sym is))

waits_there : (h : HistoryValue) (known : OpenCalls) (lane xid place : ℕ) → IsOpenAt h known → get same_key known.unanswered (lane, xid) ≡ Some place → AnswersWait lane xid (Some (0 + place)) 0 (calls_of (all_happened h.events))
waits_there h known lane xid place is at =
    let same : place ≡ 0 + place = omega arith in
    subst (λ n. AnswersWait lane xid (Some n) 0 (calls_of (all_happened h.events))) same (subst (λ o. AnswersWait lane xid o 0 (calls_of (all_happened h.events))) at (is.knows.places lane xid))

pub answered_found : (h : HistoryValue) (known : OpenCalls) (lane : ℕ) (message : List ℕ) (place : ℕ) (asked : CallEvent) (now : RecordedCall) → IsOpenAt h known
    → get same_key known.unanswered (lane, xid_of message) ≡ Some place → Some asked ≡ option_map unanswered (slice_get (calls_of (all_happened h.events)) place)
    → IsRecorded (answered_by (record { number = length h.events + 1; message = message }) asked) now
    → AreCallsWith h (reply lane message) (set h.known.calls place now)
answered_found h known lane message place asked now is at seen recorded =
    let r : ReplyEvent = record { number = length h.events + 1; message = message } in
    let found = seen_event_of (slice_get (calls_of (all_happened h.events)) place) asked seen in
    let of : IsRecorded (answered_by r found.0) now = subst (λ (c : CallEvent). IsRecorded (answered_by r c) now) (sym found.2) recorded in
    subst (λ es. AreRecorded es (set h.known.calls place now)) (sym (answered_calls h lane message))
    (recorded_answered lane (xid_of message) 0 place r (calls_of (all_happened h.events)) h.known.calls found.0 now is.history.known.calls (waits_there h known lane (xid_of message) place is at) found.1 of)

pub answered_stop : (h : HistoryValue) (known : OpenCalls) (lane : ℕ) (message : List ℕ) (place : ℕ) (asked : CallEvent) (stop : Stop) → IsOpenAt h known
    → get same_key known.unanswered (lane, xid_of message) ≡ Some place → Some asked ≡ option_map unanswered (slice_get (calls_of (all_happened h.events)) place)
    → IsStopFor {X = Unit {0}} (IsFound (place + 1) (answered_by (record { number = length h.events + 1; message = message }) asked)) (Err stop)
    → IsStopFor {X = Unit {0}} (FirstCallFault 1 (calls_of (all_happened h.events ++ reply lane message ∷ []))) (Err stop)
answered_stop h known lane message place asked stops.NoMemory is at seen stopped = tt
answered_stop h known lane message place asked (stops.Fault fault) is at seen stopped =
    let r : ReplyEvent = record { number = length h.events + 1; message = message } in
    let events = calls_of (all_happened h.events) in
    let found = seen_event_of (slice_get events place) asked seen in
    let number : place + 1 ≡ 1 + place = omega arith in
    let of : IsFound (1 + place) (answered_by r found.0) fault = subst (λ (c : CallEvent). IsFound (1 + place) (answered_by r c) fault) (sym found.2) (subst (λ n. IsFound n (answered_by r asked) fault) number stopped) in
    subst (λ es. FirstCallFault 1 es fault) (sym (answered_calls h lane message))
    (fault_answered 1 lane (xid_of message) 0 place r events found.0 fault (all_fine events h.known.calls is.history.known.calls) (waits_there h known lane (xid_of message) place is at) found.1 (call_fault_found (1 + place) (answered_by r found.0) fault of))

readable_behind : (events : List CallEvent) (place : ℕ) (e : CallEvent) → AreReadable events → slice_get events place ≡ Some e → IsReadable e
readable_behind [] place e all is = absurd (cc)
readable_behind (c ∷ events) zero e all is = subst IsReadable (same_Some c e is) all.0
readable_behind (c ∷ events) (suc place) e all is = readable_behind events place e all.1 is

pub answered_readable : (h : HistoryValue) (known : OpenCalls) (lane : ℕ) (message : List ℕ) (place number : ℕ) (asked : CallEvent) → IsOpenAt h known → MayFollow (all_happened h.events) (reply lane message)
    → Some asked ≡ option_map unanswered (slice_get (calls_of (all_happened h.events)) place) → IsReadable (answered_by (record { number = number; message = message }) asked)
answered_readable h known lane message place number asked is may seen =
    let events = calls_of (all_happened h.events) in
    let found = seen_event_of (slice_get events place) asked seen in
    let read = readable_behind events place found.0 (calls_readable 1 1 [] (all_happened h.events) is.history.known.follow) found.1 in
    subst (λ (c : CallEvent). IsReadable (answered_by (record { number = number; message = message }) c)) found.2
    (read.0, (Some may.1.0.body, (may.1.0, may.1.1, refl)))

-- ---- where a call's message stands

pub asked_here : (h : HistoryValue) (known : OpenCalls) (place : ℕ) (asked : RecordedCall) → IsOpenAt h known → place < length h.known.calls → asked ≡ get_or h.known.calls place asked → IsAsked (calls_of (all_happened h.events)) place asked
asked_here h known place asked is lt at = asked_at (calls_of (all_happened h.events)) h.known.calls place asked is.history.known.calls lt at

pub record BeganAt (h : HistoryValue) (asked : RecordedCall) (e : CallEvent) : Type 0 where
  pub some : 1 ≤ asked.begin
  pub within : asked.begin - 1 < length h.events
  pub event : slice_get (all_happened h.events) (asked.begin - 1) ≡ Some (call e.lane e.message)

got_within : {A : Type 0} → (xs : List A) (i : ℕ) (x : A) → slice_get xs i ≡ Some x → i < length xs
got_within [] i x is = absurd (cc)
got_within (y ∷ xs) zero x is = omega arith
got_within (y ∷ xs) (suc i) x is = let rest = got_within xs i x is in omega arith

pub began_at : (h : HistoryValue) (place : ℕ) (asked : RecordedCall) (is : IsAsked (calls_of (all_happened h.events)) place asked) → BeganAt h asked is.event
began_at h place asked is =
    let stands = stands_at 1 1 (all_happened h.events) place is.event is.at in
    let begin : asked.begin ≡ 1 + stands.place = is.recorded.begin ∙ stands.begin in
    let at : stands.place ≡ asked.begin - 1 = omega (arith, begin) in
    let lt : stands.place < length (all_happened h.events) = got_within (all_happened h.events) stands.place _ stands.event in
    record {
      some = omega (arith, begin);
      within = omega (arith, lt, at, length-map h.events happened);
      event = subst (λ n. slice_get (all_happened h.events) n ≡ Some (call is.event.lane is.event.message)) at stands.event;
    }

-- it is a call
pub no_other : (this : owned.Event) (lane : ℕ) (message : List ℕ) → happened this ≡ call lane message → ((l : ℕ) (m : List ℕ) → this ≡ owns.Call l m → ⊥) → ⊥
no_other (owns.Call l m) lane message is not_call = not_call l m refl
no_other (owns.Reply l m) lane message is not_call = absurd (cc)
no_other (owns.Close l) lane message is not_call = absurd (cc)
no_other owns.Crash lane message is not_call = absurd (cc)

-- what happened there
pub happened_there : (events : List owned.Event) (i : ℕ) (this : owned.Event) (e : Event) → slice_get (all_happened events) i ≡ Some e → this ≡ get_or events i this → happened this ≡ e
happened_there [] i this e at is = absurd (cc)
happened_there (x ∷ events) zero this e at is = ap happened is ∙ same_Some (happened x) e at
happened_there (x ∷ events) (suc i) this e at is = happened_there events i this e at is

pub seen_so : (events : List CallEvent) (place : ℕ) (asked : RecordedCall) (is : IsAsked events place asked) (lane : ℕ) (message : List ℕ) → call lane message ≡ call is.event.lane is.event.message
    → Some (new_call lane message asked.begin asked.era) ≡ option_map unanswered (slice_get events place)
seen_so events place asked is lane message same =
    let on : lane ≡ is.event.lane = cc in
    let of : message ≡ is.event.message = cc in
    rw (on, of, is.recorded.begin, is.recorded.era, is.at) refl

-- ---- a history with one event more

all_with : (events events' : List owned.Event) (event : owned.Event) → events' ≡ events ++ event ∷ [] → all_happened events' ≡ all_happened events ++ happened event ∷ []
all_with events events' event more = ap all_happened more ∙ map_push happened events event

pub kept_more : (head : Head) (known known' : OpenCalls) (calls calls' : List RecordedCall) (events events' : List owned.Event) (event : owned.Event) (spare spare' : ℕ)
    → events' ≡ events ++ event ∷ [] → IsOpenAt (history_of head known calls events spare) known → MayFollow (all_happened events) (happened event) → KnowsOneMore known known' (happened event)
    → AreRecorded (calls_of (all_happened events ++ happened event ∷ [])) calls' → IsOpenAt (history_of head known' calls' events' spare') known'
kept_more head known known' calls calls' events events' event spare spare' more is may knows recorded =
    let all = all_with events events' event more in
    let knows' : Knows known' (all_happened events') = subst (Knows known') (sym all) (knows (all_happened events) is.knows may) in
    record {
      history = record {
        known = record {
          follow = subst (EachMayFollow []) (sym all) (follow_push [] (all_happened events) (happened event) is.history.known.follow may);
          head = refl;
          eras = knows'.era;
          calls = subst (λ (es : List Event). AreRecorded (calls_of es) calls') (sym all) recorded;
        };
        events = refl;
      };
      knows = knows';
    }

pub follows_more : (head : Head) (known known' : OpenCalls) (calls calls' : List RecordedCall) (events events' : List owned.Event) (event : owned.Event) (spare : ℕ) (old : HistoryValue)
    → history_of head known calls events spare ≡ old → events' ≡ events ++ event ∷ [] → IsOpenAt (history_of head known calls events spare) known → MayFollow (all_happened events) (happened event) → KnowsOneMore known known' (happened event)
    → AreRecorded (calls_of (all_happened events ++ happened event ∷ [])) calls' → Follows old event (history_of head known' calls' events' 0)
follows_more head known known' calls calls' events events' event spare old view more is may knows recorded =
    subst (λ (h : HistoryValue). Follows h event (history_of head known' calls' events' 0)) view (record {
      history = record {
        known = record {
          follow = follow_push [] (all_happened events) (happened event) is.history.known.follow may;
          head = refl;
          eras = (knows (all_happened events) is.knows may).era;
          calls = recorded;
        };
        events = all_with events events' event more;
      };
      events = more;
      spare = refl;
    })

-- where memory was wanting, all is as it was
pub kept_as_much : (head : Head) (known known' : OpenCalls) (calls calls' : List RecordedCall) (events events' : List owned.Event) (spare : ℕ) → calls' ≡ calls → events' ≡ events
    → IsOpenAt (history_of head known calls events spare) known → KnowsAsMuch known known' → (history_of head known' calls' events' spare ≡ history_of head known calls events spare) × IsOpenAt (history_of head known' calls' events' spare) known'
kept_as_much head known known' calls calls' events events' spare calls_are events_are is knows =
    let before = all_happened events in
    let knows' = knows before is.knows in
    let era : known'.era ≡ known.era = knows'.era ∙ sym is.knows.era in
    let made : ℕ → List RecordedCall → List owned.Event → HistoryValue = λ n cs es. record { known = record { head = head; eras = n; calls = cs }; events = es; spare = spare } in
    let same : made known'.era calls' events' ≡ made known.era calls events = rw (era, calls_are, events_are) refl in (
      same,
      record {
        history = subst (λ (h : HistoryValue). IsHistory (recording_of h) h) (sym same) is.history;
        knows = subst (λ (es : List owned.Event). Knows known' (all_happened es)) (sym events_are) knows';
      },
    )

-- a close and a crash leave the calls as they are
pub quiet_recorded : (h : HistoryValue) (known : OpenCalls) (e : Event) → IsOpenAt h known → IsQuiet e → AreRecorded (calls_of (all_happened h.events ++ e ∷ [])) h.known.calls
quiet_recorded h known e is quiet = subst (λ es. AreRecorded es h.known.calls) (sym (calls_from-quiet 1 1 (all_happened h.events) e quiet)) is.history.known.calls

-- there are no more eras than events, but for the first
pub era_within : (h : HistoryValue) (known : OpenCalls) → IsOpenAt h known → known.era ≤ 1 + length h.events
era_within h known is = omega (arith, is.knows.era, eras_few 1 (all_happened h.events), length-map h.events happened)

-- a call is pushed where there is room for it
pub pushed_within : (calls before after : List RecordedCall) (one : RecordedCall) (fits : Bool) → before ≡ calls → after ≡ (if fits then before ++ one ∷ [] else before) → fits ≡ true → after ≡ calls ++ one ∷ []
pushed_within calls before after one fits same pushed fit =
    pushed ∙ ap (λ (b : Bool). if b then before ++ one ∷ [] else before) fit ∙ ap (λ (cs : List RecordedCall). cs ++ one ∷ []) same

-- ---- what the functions that judge a call answer

pub begun_ok : (h : HistoryValue) (known : OpenCalls) (lane : ℕ) (message : List ℕ) (begin era : ℕ) (old : HistoryValue) (r : Result RecordedCall Stop) → h ≡ old → IsOpenAt h known → begin ≡ length h.events + 1 → era ≡ known.era
    → IfOk r (IsRecorded (new_call lane message begin era)) → IfOk r (λ begun. AreCallsWith old (call lane message) (old.known.calls ++ begun ∷ []))
begun_ok h known lane message begin era old (Err stop) view is at of recorded = tt
begun_ok h known lane message begin era old (Ok begun) view is at of recorded =
    let there : IsRecorded (new_call lane message (length h.events + 1) known.era) begun = subst (λ n. IsRecorded (new_call lane message n known.era) begun) at (subst (λ n. IsRecorded (new_call lane message begin n) begun) of recorded) in
    subst (λ (v : HistoryValue). AreCallsWith v (call lane message) (v.known.calls ++ begun ∷ [])) view (begun_found h known lane message begun is there)

pub begun_err : (h : HistoryValue) (known : OpenCalls) (lane : ℕ) (message : List ℕ) (begin era number : ℕ) (old : HistoryValue) (r : Result RecordedCall Stop) → h ≡ old → IsOpenAt h known → begin ≡ length h.events + 1 → era ≡ known.era → number ≡ length h.known.calls + 1
    → IsStopFor (IsFound number (new_call lane message begin era)) r → IsStopFor (FirstCallFault 1 (calls_of (all_happened old.events ++ call lane message ∷ []))) r
begun_err h known lane message begin era number old (Ok begun) view is at of count stopped = tt
begun_err h known lane message begin era number old (Err stops.NoMemory) view is at of count stopped = tt
begun_err h known lane message begin era number old (Err (stops.Fault fault)) view is at of count stopped =
    let there : IsFound number (new_call lane message (length h.events + 1) known.era) fault = subst (λ n. IsFound number (new_call lane message n known.era) fault) at (subst (λ n. IsFound number (new_call lane message begin n) fault) of stopped) in
    subst (λ (v : HistoryValue). FirstCallFault 1 (calls_of (all_happened v.events ++ call lane message ∷ [])) fault) view (begun_stop h known lane message number (stops.Fault fault) is count there)

pub answered_ok : (h : HistoryValue) (known : OpenCalls) (lane : ℕ) (message : List ℕ) (place number : ℕ) (asked : CallEvent) (now : RecordedCall) (old : HistoryValue) → h ≡ old → IsOpenAt h known → number ≡ length h.events + 1
    → get same_key known.unanswered (lane, xid_of message) ≡ Some place → Some asked ≡ option_map unanswered (slice_get (calls_of (all_happened old.events)) place)
    → IsRecorded (answered_by (record { number = number; message = message }) asked) now → (place < length old.known.calls) × AreCallsWith old (reply lane message) (set old.known.calls place now)
answered_ok h known lane message place number asked now old view is count at seen recorded =
    let there : Some asked ≡ option_map unanswered (slice_get (calls_of (all_happened h.events)) place) = subst (λ (v : HistoryValue). Some asked ≡ option_map unanswered (slice_get (calls_of (all_happened v.events)) place)) (sym view) seen in
    subst (λ (v : HistoryValue). (place < length v.known.calls) × AreCallsWith v (reply lane message) (set v.known.calls place now)) view (
      place_within h known lane (xid_of message) place is at,
      answered_found h known lane message place asked now is at there (subst (λ n. IsRecorded (answered_by (record { number = n; message = message }) asked) now) count recorded),
    )

pub answered_err : (h : HistoryValue) (known : OpenCalls) (lane : ℕ) (message : List ℕ) (place number : ℕ) (asked : CallEvent) (stop : Stop) (old : HistoryValue) → h ≡ old → IsOpenAt h known → number ≡ length h.events + 1
    → get same_key known.unanswered (lane, xid_of message) ≡ Some place → Some asked ≡ option_map unanswered (slice_get (calls_of (all_happened old.events)) place)
    → IsStopFor {X = Unit {0}} (IsFound (place + 1) (answered_by (record { number = number; message = message }) asked)) (Err stop)
    → IsStopFor {X = Unit {0}} (FirstCallFault 1 (calls_of (all_happened old.events ++ reply lane message ∷ []))) (Err stop)
answered_err h known lane message place number asked stop old view is count at seen stopped =
    let there : Some asked ≡ option_map unanswered (slice_get (calls_of (all_happened h.events)) place) = subst (λ (v : HistoryValue). Some asked ≡ option_map unanswered (slice_get (calls_of (all_happened v.events)) place)) (sym view) seen in
    subst (λ (v : HistoryValue). IsStopFor {X = Unit {0}} (FirstCallFault 1 (calls_of (all_happened v.events ++ reply lane message ∷ []))) (Err stop)) view
    (answered_stop h known lane message place asked stop is at there
    (subst (λ n. IsStopFor {X = Unit {0}} (IsFound (place + 1) (answered_by (record { number = n; message = message }) asked)) (Err stop)) count stopped))

pub readable_there : (h : HistoryValue) (known : OpenCalls) (lane : ℕ) (message : List ℕ) (place number : ℕ) (asked : CallEvent) (old : HistoryValue) → h ≡ old → IsOpenAt h known → MayFollow (all_happened old.events) (reply lane message)
    → Some asked ≡ option_map unanswered (slice_get (calls_of (all_happened old.events)) place) → IsReadable (answered_by (record { number = number; message = message }) asked)
readable_there h known lane message place number asked old view is may seen =
    answered_readable h known lane message place number asked is (subst (λ (v : HistoryValue). MayFollow (all_happened v.events) (reply lane message)) (sym view) may)
    (subst (λ (v : HistoryValue). Some asked ≡ option_map unanswered (slice_get (calls_of (all_happened v.events)) place)) (sym view) seen)

-- ---- the answers

pub appended_so : {X : Type 0} (old new : HistoryValue) (event : owned.Event) (x : X) → Follows old event new → Appends {X = X} old event (Ok x) new
appended_so old new event x follows = record { found = follows; kept = tt; fault = tt; crashed = λ _ _. refl }

-- a crash has no fault of its own
pub refused_so : {X : Type 0} (old new : HistoryValue) (event : owned.Event) (fault : HistoryFault) → new ≡ old → (fault ≡ faults.NoMemory) ⊎ FirstFaultOf (with_event old event).events fault → (1 ≤ old.spare → happened event ≡ crash → ⊥) → Appends {X = X} old event (Err fault) new
refused_so old new event fault same is no_crash = record { found = tt; kept = same; fault = is; crashed = λ room crashed. absurd (no_crash room crashed) }

-- where its message can't be judged
pub stopped_so : {X : Type 0} (old : HistoryValue) (event : owned.Event) (stop : Stop) → EachMayFollow [] (all_happened old.events) → MayFollow (all_happened old.events) (happened event) → (happened event ≡ crash → ⊥)
    → IsStopFor {X = Unit {0}} (FirstCallFault 1 (calls_of (all_happened old.events ++ happened event ∷ []))) (Err stop) → Appends {X = X} old event (Err (of_stop stop)) old
stopped_so old event stop all may no_crash stopped =
    refused_so old old event (of_stop stop) refl (next_stop (all_happened old.events) (happened event) stop all may stopped) (λ _ crashed. no_crash crashed)

-- where it may not follow
pub unfollowed_so : {X : Type 0} (old : HistoryValue) (event : owned.Event) (fault : EventFault) → EachMayFollow [] (all_happened old.events)
    → IsAtFault (length (all_happened old.events) + 1) (all_happened old.events) (happened event) fault → Appends {X = X} old event (Err (of_event fault)) old
unfollowed_so old event fault all at =
    refused_so old old event (of_event fault) refl (inr (next_fault (all_happened old.events) (happened event) fault all at))
    (λ _ crashed. subst (λ (e : Event). IsAtFault (length (all_happened old.events) + 1) (all_happened old.events) e fault) crashed at)

-- where memory is wanting
pub wanting_so : {X : Type 0} (old new : HistoryValue) (event : owned.Event) → new ≡ old → (1 ≤ old.spare → happened event ≡ crash → ⊥) → Appends {X = X} old event (Err faults.NoMemory) new
wanting_so old new event same no_crash = refused_so old new event faults.NoMemory same (inl refl) no_crash

pub history_with : {X : Type 0} (old new : HistoryValue) (event : owned.Event) (r : Result X HistoryFault) → Appends old event r new → OnOk r (IsHistory (with_event old event) new)
history_with old new event (Ok x) appends = appends.found.history
history_with old new event (Err fault) appends = tt

pub events_with : {X : Type 0} (old new : HistoryValue) (event : owned.Event) (r : Result X HistoryFault) → Appends old event r new → OnOk r (new.events ≡ old.events ++ event ∷ [])
events_with old new event (Ok x) appends = appends.found.events
events_with old new event (Err fault) appends = tt

pub spare_with : {X : Type 0} (old new : HistoryValue) (event : owned.Event) (r : Result X HistoryFault) → Appends old event r new → OnOk r (new.spare ≡ 0)
spare_with old new event (Ok x) appends = appends.found.spare
spare_with old new event (Err fault) appends = tt

pub only_memory_with : {X : Type 0} (seen : Recording) (r : Result X HistoryFault) (h : HistoryValue) → IsErrorOf (FirstFaultOf seen.events) r → IsHistory seen h → IsFineOrNoMemory r
only_memory_with seen (Ok x) h fault is = tt
only_memory_with seen (Err f) h (inl none) is = none
only_memory_with seen (Err f) h (inr first) is = absurd (fault_or_calls seen f h.known first is.known)

pub named_with : {X : Type 0} (old new : HistoryValue) (event : owned.Event) (r : Result X HistoryFault) (fault : HistoryFault) → Appends old event r new → FirstFaultOf (with_event old event).events fault → IsThatOrNoMemory fault r
named_with old new event (Ok x) fault appends first = absurd (fault_or_calls (with_event old event) fault new.known first appends.found.history.known)
named_with old new event (Err f) fault appends first = either appends.fault where
  either : (f ≡ faults.NoMemory) ⊎ FirstFaultOf (with_event old event).events f → (f ≡ faults.NoMemory) ⊎ (f ≡ fault)
  either (inl none) = inl none
  either (inr is) = inr (one_first_of (with_event old event).events f fault is first)
