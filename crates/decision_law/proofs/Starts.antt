-- A call begins between the crashes that begin and end its era, and ends behind its begin.
use Rattle.std.proofs.Common.{◌≡◌, ◌⊎◌, inl, inr, ℕ, zero, suc, ◌+◌, ◌<◌, ◌≤◌, Bool, true, false, List, [], ◌∷◌, Option, Some, None, option_map, refl, sym, ap, subst, ◌∙◌, arith}
use Rattle.std.specs.Prelude.{if◌then◌else◌, ◌==◌, ◌&&◌}
use Rattle.std.specs.List.{AllByRecursion, slice_get}
use Rattle.history_file.specs.Event.{Event}
use Rattle.history_file.specs.Event.Event.{call, reply, close, crash}
use Rattle.nfs_history.specs.declared.recorded.RecordedCall.{RecordedCall}
use Rattle.nfs_history.specs.declared.knowing.KnownCalls.{KnownCalls}
use Rattle.nfs_history.specs.Calls.{CallEvent, ReplyEvent, first_reply, calls_from, xid_of}
use Rattle.nfs_history.specs.History.{IsRecorded, AreRecorded}
use Rattle.nfs_history.specs.Precedence.{call_at}
use Rattle.decision_law.specs.Times.{crash_at, era_start, IsTimed, AreTimed}

-- ---- crashes, one behind the other

pub late : (i k : ℕ) (events : List Event) → i ≤ crash_at i k events
late i k [] = omega arith
late i k (call lane message ∷ events) = let h = late (i + 1) k events in omega (arith, h)
late i k (reply lane message ∷ events) = let h = late (i + 1) k events in omega (arith, h)
late i k (close lane ∷ events) = let h = late (i + 1) k events in omega (arith, h)
late i zero (crash ∷ events) = omega arith
late i (suc k) (crash ∷ events) = let h = late (i + 1) k events in omega (arith, h)

rises_one : (i k : ℕ) (events : List Event) → crash_at i k events ≤ crash_at i (suc k) events
rises_one i k [] = omega arith
rises_one i k (call lane message ∷ events) = rises_one (i + 1) k events
rises_one i k (reply lane message ∷ events) = rises_one (i + 1) k events
rises_one i k (close lane ∷ events) = rises_one (i + 1) k events
rises_one i zero (crash ∷ events) = let h = late (i + 1) 0 events in omega (arith, h)
rises_one i (suc k) (crash ∷ events) = rises_one (i + 1) k events

start_rises_one : (events : List Event) (e : ℕ) → era_start events e ≤ era_start events (suc e)
start_rises_one events zero = omega arith
start_rises_one events (suc zero) = omega arith
start_rises_one events (suc (suc k)) = rises_one 1 k events

pub start_rises : (events : List Event) (e f : ℕ) → e ≤ f → era_start events e ≤ era_start events f
start_rises events e zero up = let none : e ≡ 0 = omega (arith, up) in subst (λ k. era_start events k ≤ era_start events 0) (sym none) (omega arith)
start_rises events e (suc f) up =
    elim (either e f up) [
      | inl below ↦ let h = start_rises events e f below in let g = start_rises_one events f in omega (arith, h, g)
      | inr same ↦ subst (λ k. era_start events k ≤ era_start events (suc f)) (sym same) (omega arith)
    ] where
      either : (e f : ℕ) → e ≤ suc f → (e ≤ f) ⊎ (e ≡ suc f)
      either e f up = grind (arith, up)

-- ---- calls among events

-- where an era begins that is so many behind that of event i
abbrev begun : ℕ → ℕ → List Event → ℕ
begun i zero events = i
begun i (suc d) events = crash_at i d events

-- the call lies between two crashes
pub record IsIn (i era : ℕ) (events : List Event) (c : CallEvent) : Type 0 where
  pub further : ℕ
  pub of_era : c.era ≡ era + further
  pub behind : begun i further events ≤ c.begin
  pub ahead : c.begin < crash_at i further events
  pub ends : (r : ReplyEvent) → c.answer ≡ Some r → c.begin < r.number

-- a reply comes behind where it is looked for
chosen : (b : Bool) (here r : ReplyEvent) (other : Option ReplyEvent) → (if b then Some here else other) ≡ Some r → (here ≡ r) ⊎ (other ≡ Some r)
chosen true here r other is = inl cc
chosen false here r other is = inr is

reply_late : (lane xid i : ℕ) (events : List Event) (r : ReplyEvent) → first_reply lane xid i events ≡ Some r → i ≤ r.number
reply_late lane xid i [] r is = absurd cc
reply_late lane xid i (call on message ∷ events) r is = let h = reply_late lane xid (i + 1) events r is in omega (arith, h)
reply_late lane xid i (close on ∷ events) r is = let h = reply_late lane xid (i + 1) events r is in omega (arith, h)
reply_late lane xid i (crash ∷ events) r is = let h = reply_late lane xid (i + 1) events r is in omega (arith, h)
reply_late lane xid i (reply on message ∷ events) r is =
    elim (chosen ((on == lane) && (xid_of message == xid)) (record { number = i; message = message }) r (first_reply lane xid (i + 1) events) is) [
      | inl here ↦ let same : i ≡ r.number = ap (λ k. k.number) here in omega (arith, same)
      | inr later ↦ let h = reply_late lane xid (i + 1) events r later in omega (arith, h)
    ]

-- a call behind one more event that is no crash
begun_later : (i d : ℕ) (events more : List Event) (begin : ℕ) → ((k : ℕ) → crash_at i k more ≡ crash_at (i + 1) k events) → begun (i + 1) d events ≤ begin → begun i d more ≤ begin
begun_later i zero events more begin same h = omega (arith, h)
begun_later i (suc d) events more begin same h = let e = same d in omega (arith, e, h)

quiet : (i era : ℕ) (events more : List Event) → ((k : ℕ) → crash_at i k more ≡ crash_at (i + 1) k events) → (c : CallEvent) → IsIn (i + 1) era events c → IsIn i era more c
quiet i era events more same c is = record {
  further = is.further;
  of_era = is.of_era;
  behind = begun_later i is.further events more c.begin same is.behind;
  ahead = let e = same is.further in let h = is.ahead in omega (arith, e, h);
  ends = is.ends;
}

-- and behind a crash
begun_crash : (i d : ℕ) (events : List Event) (begin : ℕ) → begun (i + 1) d events ≤ begin → begun i (suc d) (crash ∷ events) ≤ begin
begun_crash i zero events begin h = omega (arith, h)
begun_crash i (suc d) events begin h = h

crashed : (i era : ℕ) (events : List Event) (c : CallEvent) → IsIn (i + 1) (era + 1) events c → IsIn i era (crash ∷ events) c
crashed i era events c is = record {
  further = suc is.further;
  of_era = let h = is.of_era in omega (arith, h);
  behind = begun_crash i is.further events c.begin is.behind;
  ahead = is.ahead;
  ends = is.ends;
}

all_weaker : (P Q : CallEvent → Type 0) → ((c : CallEvent) → P c → Q c) → (cs : List CallEvent) → AllByRecursion P cs → AllByRecursion Q cs
all_weaker P Q so [] all = tt
all_weaker P Q so (c ∷ cs) all = (so c all.0, all_weaker P Q so cs all.1)

pub all_in : (i era : ℕ) (events : List Event) → AllByRecursion (IsIn i era events) (calls_from i era events)
all_in i era [] = tt
all_in i era (call lane message ∷ events) = (
  record {
    further = 0;
    of_era = omega arith;
    behind = omega arith;
    ahead = let h = late (i + 1) 0 events in omega (arith, h);
    ends = λ r is. let h = reply_late lane (xid_of message) (i + 1) events r is in omega (arith, h);
  },
  all_weaker (IsIn (i + 1) era events) (IsIn i era (call lane message ∷ events)) (quiet i era events (call lane message ∷ events) (λ k. refl)) (calls_from (i + 1) era events) (all_in (i + 1) era events),
)
all_in i era (reply lane message ∷ events) =
    all_weaker (IsIn (i + 1) era events) (IsIn i era (reply lane message ∷ events)) (quiet i era events (reply lane message ∷ events) (λ k. refl)) (calls_from (i + 1) era events) (all_in (i + 1) era events)
all_in i era (close lane ∷ events) =
    all_weaker (IsIn (i + 1) era events) (IsIn i era (close lane ∷ events)) (quiet i era events (close lane ∷ events) (λ k. refl)) (calls_from (i + 1) era events) (all_in (i + 1) era events)
all_in i era (crash ∷ events) =
    all_weaker (IsIn (i + 1) (era + 1) events) (IsIn i era (crash ∷ events)) (crashed i era events) (calls_from (i + 1) (era + 1) events) (all_in (i + 1) (era + 1) events)

-- ---- recorded calls

recorded_get : (P : CallEvent → Type 0) (cs : List CallEvent) (calls : List RecordedCall) → AllByRecursion P cs → AreRecorded cs calls → (n : ℕ) (recorded : RecordedCall)
    → slice_get calls n ≡ Some recorded → (c : CallEvent) × P c × IsRecorded c recorded
recorded_get P [] [] all are n recorded stands = absurd cc
recorded_get P [] (first ∷ calls) all are n recorded stands = absurd are
recorded_get P (c ∷ cs) [] all are n recorded stands = absurd cc
recorded_get P (c ∷ cs) (first ∷ calls) all are zero recorded stands = let same : first ≡ recorded = cc in (c, all.0, subst (IsRecorded c) same are.0)
recorded_get P (c ∷ cs) (first ∷ calls) all are (suc n) recorded stands = recorded_get P cs calls all.1 are.1 n recorded stands

pub recorded_at : (P : CallEvent → Type 0) (cs : List CallEvent) (calls : List RecordedCall) → AllByRecursion P cs → AreRecorded cs calls → (n : ℕ) (recorded : RecordedCall)
    → call_at calls n ≡ Some recorded → (c : CallEvent) × P c × IsRecorded c recorded
recorded_at P cs calls all are zero recorded stands = absurd cc
recorded_at P cs calls all are (suc n) recorded stands = recorded_get P cs calls all are n recorded stands

-- the first era begins ahead of all events
started : (d : ℕ) (events : List Event) (begin : ℕ) → begun 1 d events ≤ begin → era_start events (suc d) ≤ begin
started zero events begin h = omega arith
started (suc d) events begin h = h

answer_number : (o : Option ReplyEvent) (begin at : ℕ) → ((r : ReplyEvent) → o ≡ Some r → begin < r.number) → option_map (λ r. r.number) o ≡ Some at → begin < at
answer_number None begin at late is = absurd cc
answer_number (Some r) begin at late is = let h = late r refl in let same : r.number ≡ at = cc in omega (arith, h, same)

timed : (events : List Event) (c : CallEvent) (recorded : RecordedCall) → IsIn 1 1 events c → IsRecorded c recorded → IsTimed (era_start events) recorded
timed events c recorded is told =
    let era : recorded.era ≡ suc is.further = (let a = told.era in let b = is.of_era in omega (arith, a, b)) in
    let next : recorded.era + 1 ≡ suc (suc is.further) = omega (arith, era) in
    let begin = told.begin in
    record {
      begins_late = subst (λ e. era_start events e ≤ recorded.begin) (sym era) (subst (λ b. era_start events (suc is.further) ≤ b) (sym begin) (started is.further events c.begin is.behind));
      begins_early = subst (λ e. recorded.begin ≤ era_start events e) (sym next) (subst (λ b. b ≤ crash_at 1 is.further events) (sym begin) (let h = is.ahead in omega (arith, h)));
      ends_late = λ at ends. subst (λ b. b < at) (sym begin) (answer_number c.answer c.begin at is.ends (sym told.«end» ∙ ends));
    }

pub are_timed : (events : List Event) (known : KnownCalls) → AreRecorded (calls_from 1 1 events) known.calls → AreTimed known (era_start events)
are_timed events known are = record {
  rises = start_rises events;
  timed = λ n recorded stands.
      let c = recorded_at (IsIn 1 1 events) (calls_from 1 1 events) known.calls (all_in 1 1 events) are n recorded stands in
      timed events c.0 recorded c.1 c.2;
}
