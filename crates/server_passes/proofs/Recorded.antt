-- In a history each answered call has its two events: the call, and a reply on its lane.
use Rattle.std.proofs.Common.{◌≡◌, ℕ, zero, suc, ◌+◌, ◌-◌, ◌≤◌, ◌==◌, ◌&&◌, Bool, true, false, cond, List, [], ◌∷◌, Option, Some, None, option_map, refl, sym, ap, subst, ◌∙◌, arith}
use Rattle.std.specs.Prelude.{slice_get, IfSome}
use Rattle.std.specs.Option.{option_map_or}
use Rattle.std.proofs.lemmas.Bool.{eqb-true}
use Rattle.history_file.specs.declared.event.Event as owned
use Rattle.history_file.specs.declared.event.Event.TheVariants as owns
use Rattle.history_file.specs.Event.{Event}
use Rattle.history_file.specs.Event.Event.{call, reply, close, crash}
use Rattle.history_file.specs.Owning.{all_happened}
use Rattle.nfs_history.specs.Calls.{ReplyEvent, CallEvent, first_reply, calls_from, calls_of, xid_of}
use Rattle.nfs_history.specs.declared.recorded.RecordedCall.{RecordedCall}
use Rattle.nfs_history.specs.HistoryValue.{HistoryValue}
use Rattle.nfs_history.specs.History.{IsRecorded, AreRecorded, IsHistory, recording_of}
use Rattle.nfs_history.specs.Precedence.{call_at}
use Rattle.server_passes.specs.Matching.{event_at, message_in, message_at, exchange_of, WasRecorded}

never_some : {X : Type 0} {x : X} → None ≡ Some x → ⊥
never_some e = cc

same_one : {X : Type 0} (x y : X) → Some x ≡ Some y → x ≡ y
same_one x y e = cc

-- the event with number n, of those that are numbered from i on
abbrev StandsAt : ℕ → List Event → ℕ → Event → Type 0
StandsAt i events n event = (i ≤ n) × (slice_get events (n - i) ≡ Some event)

further : (i n : ℕ) (x : Event) (events : List Event) (y : Event) → StandsAt (i + 1) events n y → StandsAt i (x ∷ events) n y
further i n x events y (above, at) =
    let place : suc (n - (i + 1)) ≡ n - i = omega arith in
    (omega arith, subst (λ k. slice_get (x ∷ events) k ≡ Some y) place at)

first_one : (i n : ℕ) (x : Event) (events : List Event) → n ≡ i → StandsAt i (x ∷ events) n x
first_one i n x events e =
    let place : 0 ≡ n - i = omega arith in
    (omega arith, subst (λ k. slice_get (x ∷ events) k ≡ Some x) place refl)

both_true : (a b : Bool) → (a && b) ≡ true → a ≡ true
both_true true b e = refl
both_true false b e = e

first_stands : (lane xid i : ℕ) (events : List Event) (a : ReplyEvent) → first_reply lane xid i events ≡ Some a → StandsAt i events a.number (reply lane a.message)
first_stands lane xid i [] a e = absurd (never_some e)
first_stands lane xid i (call on m ∷ events) a e = further i a.number (call on m) events (reply lane a.message) (first_stands lane xid (i + 1) events a e)
first_stands lane xid i (close on ∷ events) a e = further i a.number (close on) events (reply lane a.message) (first_stands lane xid (i + 1) events a e)
first_stands lane xid i (crash ∷ events) a e = further i a.number crash events (reply lane a.message) (first_stands lane xid (i + 1) events a e)
first_stands lane xid i (reply on m ∷ events) a e = by ((on == lane) && (xid_of m == xid)) refl (first_stands lane xid (i + 1) events a) e
  where
    by : (b : Bool) → ((on == lane) && (xid_of m == xid)) ≡ b → (first_reply lane xid (i + 1) events ≡ Some a → StandsAt (i + 1) events a.number (reply lane a.message))
        → cond b (Some (record { number = i; message = m })) (first_reply lane xid (i + 1) events) ≡ Some a → StandsAt i (reply on m ∷ events) a.number (reply lane a.message)
    by true same rest found =
        let here : record { number = i; message = m } ≡ a = same_one _ a found in
        let lane_is : on ≡ lane = eqb-true on lane (both_true (on == lane) (xid_of m == xid) same) in
        let event_is : reply on m ≡ reply lane a.message = (λ j. reply (lane_is j) ((here j).message)) in
        subst (λ x. StandsAt i (reply on m ∷ events) a.number x) event_is (first_one i a.number (reply on m) events (sym (ap (λ r. r.number) here)))
    by false other rest found = further i a.number (reply on m) events (reply lane a.message) (rest found)

record Stands (i : ℕ) (events : List Event) (c : CallEvent) : Type 0 where
  asked : StandsAt i events c.begin (call c.lane c.message)
  replied : (a : ReplyEvent) → c.answer ≡ Some a → StandsAt i events a.number (reply c.lane a.message)

all_further : (i : ℕ) (x : Event) (events : List Event) (c : CallEvent) → Stands (i + 1) events c → Stands i (x ∷ events) c
all_further i x events c s = record {
  asked = further i c.begin x events (call c.lane c.message) s.asked;
  replied = λ a e. further i a.number x events (reply c.lane a.message) (s.replied a e);
}

all_stand : (i era : ℕ) (events : List Event) (k : ℕ) (c : CallEvent) → slice_get (calls_from i era events) k ≡ Some c → Stands i events c
all_stand i era [] k c e = absurd (never_some e)
all_stand i era (call lane m ∷ events) zero c e =
    subst (Stands i (call lane m ∷ events)) (same_one _ c e)
    (record {
      asked = first_one i i (call lane m) events refl;
      replied = λ a f. further i a.number (call lane m) events (reply lane a.message) (first_stands lane (xid_of m) (i + 1) events a f);
    })
all_stand i era (call lane m ∷ events) (suc k) c e = all_further i (call lane m) events c (all_stand (i + 1) era events k c e)
all_stand i era (reply lane m ∷ events) k c e = all_further i (reply lane m) events c (all_stand (i + 1) era events k c e)
all_stand i era (close lane ∷ events) k c e = all_further i (close lane) events c (all_stand (i + 1) era events k c e)
all_stand i era (crash ∷ events) k c e = all_further i crash events c (all_stand (i + 1) (era + 1) events k c e)

-- the event of a call
record IsOf (events : List CallEvent) (k : ℕ) (c : RecordedCall) : Type 0 where
  event : CallEvent
  at : slice_get events k ≡ Some event
  recorded : IsRecorded event c

event_of : (events : List CallEvent) (calls : List RecordedCall) (k : ℕ) (c : RecordedCall) → AreRecorded events calls → slice_get calls k ≡ Some c → IsOf events k c
event_of [] [] k c are e = absurd (never_some e)
event_of [] (d ∷ calls) k c are e = absurd are
event_of (x ∷ events) [] k c are e = absurd are
event_of (x ∷ events) (d ∷ calls) zero c are e = record { event = x; at = refl; recorded = subst (IsRecorded x) (same_one d c e) are.0 }
event_of (x ∷ events) (d ∷ calls) (suc k) c are e =
    let rest = event_of events calls k c are.1 e in record { event = rest.event; at = rest.at; recorded = rest.recorded }

call_there : (events : List owned.Event) (i lane : ℕ) (message : List ℕ) → slice_get (all_happened events) i ≡ Some (call lane message) → slice_get events i ≡ Some (owns.Call lane message)
call_there [] i lane message e = absurd (never_some e)
call_there (owns.Call l m ∷ events) zero lane message e = cc
call_there (owns.Reply l m ∷ events) zero lane message e = absurd cc
call_there (owns.Close l ∷ events) zero lane message e = absurd cc
call_there (owns.Crash ∷ events) zero lane message e = absurd cc
call_there (x ∷ events) (suc i) lane message e = call_there events i lane message e

reply_there : (events : List owned.Event) (i lane : ℕ) (message : List ℕ) → slice_get (all_happened events) i ≡ Some (reply lane message) → slice_get events i ≡ Some (owns.Reply lane message)
reply_there [] i lane message e = absurd (never_some e)
reply_there (owns.Reply l m ∷ events) zero lane message e = cc
reply_there (owns.Call l m ∷ events) zero lane message e = absurd cc
reply_there (owns.Close l ∷ events) zero lane message e = absurd cc
reply_there (owns.Crash ∷ events) zero lane message e = absurd cc
reply_there (x ∷ events) (suc i) lane message e = reply_there events i lane message e

from_number : (events : List owned.Event) (n : ℕ) (x : owned.Event) → 1 ≤ n → slice_get events (n - 1) ≡ Some x → event_at events n ≡ Some x
from_number events zero x above at = absurd (omega arith)
from_number events (suc n) x above at = let place : suc n - 1 ≡ n = omega arith in subst (λ k. slice_get events k ≡ Some x) place at

-- the message of an event that is a call or a reply
message_is : (events : List owned.Event) (n : ℕ) (x : owned.Event) → event_at events n ≡ Some x → message_at events n ≡ message_in x
message_is events n x at = ap (λ o. option_map_or message_in o []) at

module _ (history : HistoryValue) (c : RecordedCall) where
  recorded_by : (number : ℕ) → c.«end» ≡ Some number → (e : CallEvent) → IsRecorded e c → Stands 1 (all_happened history.events) e
      → WasRecorded history c (record { message = message_at history.events c.begin; reply = message_at history.events number })
  recorded_by number ended e is stands =
      let events = history.events in
      let there = from_number events e.begin (owns.Call e.lane e.message) stands.asked.0 (call_there events (e.begin - 1) e.lane e.message stands.asked.1) in
      let here : event_at events c.begin ≡ Some (owns.Call c.lane e.message) = ap (event_at events) is.begin ∙ there ∙ ap (λ l. Some (owns.Call l e.message)) (sym is.lane) in
      record {
        asked = here ∙ ap (λ m. Some (owns.Call c.lane m)) (sym (message_is events c.begin (owns.Call c.lane e.message) here));
        replied = (number, ended, by e.answer refl);
      }
    where
      by : (o : Option ReplyEvent) → e.answer ≡ o → event_at history.events number ≡ Some (owns.Reply c.lane (message_at history.events number))
      by None unanswered = absurd (never_some (sym (sym ended ∙ is.«end» ∙ ap (option_map (λ r. r.number)) unanswered)))
      by (Some a) answered =
          let events = history.events in
          let stood = stands.replied a answered in
          let same : a.number ≡ number = same_one a.number number (sym (ap (option_map (λ r. r.number)) answered) ∙ sym is.«end» ∙ ended) in
          let there = from_number events a.number (owns.Reply e.lane a.message) stood.0 (reply_there events (a.number - 1) e.lane a.message stood.1) in
          let here : event_at events number ≡ Some (owns.Reply c.lane a.message) = ap (event_at events) (sym same) ∙ there ∙ ap (λ l. Some (owns.Reply l a.message)) (sym is.lane) in
          here ∙ ap (λ m. Some (owns.Reply c.lane m)) (sym (message_is events number (owns.Reply c.lane a.message) here))

pub was_recorded : (history : HistoryValue) (number : ℕ) (c : RecordedCall) → IsHistory (recording_of history) history → call_at history.known.calls number ≡ Some c
    → IfSome (exchange_of history c) (WasRecorded history c)
was_recorded history zero c is at = absurd (never_some at)
was_recorded history (suc n) c is at = by c.«end» refl
  where
    found : IsOf (calls_of (all_happened history.events)) n c
    found = event_of (calls_of (all_happened history.events)) history.known.calls n c is.known.calls at

    by : (o : Option ℕ) → c.«end» ≡ o → IfSome (option_map (λ number. record { message = message_at history.events c.begin; reply = message_at history.events number }) o) (WasRecorded history c)
    by None ended = tt
    by (Some number) ended = recorded_by history c number ended found.event found.recorded (all_stand 1 1 (all_happened history.events) n found.event found.at)
