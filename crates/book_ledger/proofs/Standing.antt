-- how a call of a book stands: what is recorded of it, and where it was placed
use Rattle.std.proofs.Common.{◌≡◌, ◌≢◌, ℕ, zero, suc, ◌-◌, ◌≤◌, List, [], ◌∷◌, length, map, get_or, Option, Some, None, refl, sym, ap, ◌∙◌, subst, arith}
use Rattle.std.specs.Prelude.{IsSome, slice_get}
use Rattle.std.specs.Option.{option_map_or}
use Rattle.std.proofs.lemmas.Option.{get_or_from_slice_get}
use Rattle.nfs3_types.specs.declared.calls.NfsCall.{NfsCall}
use Rattle.nfs3_types.specs.declared.calls.NfsCall.TheVariants as calls
use Rattle.history_file.specs.declared.event.Event as owned
use Rattle.history_file.specs.declared.event.Event.TheVariants as owns
use Rattle.history_file.specs.Event.Event.{call}
use Rattle.history_file.specs.Owning.{all_happened}
use Rattle.nfs_history.specs.declared.checking.LaneState.TheVariants as lanes
use Rattle.nfs_history.specs.declared.recorded.Meaning.TheVariants as meanings
use Rattle.nfs_history.specs.declared.recorded.RecordedCall.{RecordedCall}
use Rattle.nfs_history.specs.HistoryValue.{HistoryValue}
use Rattle.nfs_history.specs.Calls.{calls_of}
use Rattle.nfs_history.specs.History.{IsHistory, recording_of}
use Rattle.nfs_history.specs.Precedence.{call_at, end_of}
use Rattle.nfs_history.specs.Standing.{IsCutOff, IsLaneState}
use Rattle.nfs_history.proofs.AppendSteps.{IsAsked as IsAskedAt, BeganAt, began_at}
use Rattle.journal.specs.Device.{Device}
use Rattle.book_laws.specs.Placing.{Placed}
use Rattle.book_laws.specs.Book.{Book}
use Rattle.book_laws.specs.Book.Condition.{running}
use Rattle.book_laws.specs.Steps.{IsUnplaced}
use Rattle.book_laws.proofs.Growing.{event_of}
use Rattle.book_laws.proofs.Lists.{all_behind}
use Rattle.book_laws.proofs.Moving.{call_has}
use Rattle.book_ledger.specs.declared.placed.PlacedCall.{PlacedCall}
use Rattle.book_ledger.specs.declared.placed.CallState.{CallState}
use Rattle.book_ledger.specs.declared.placed.Condition as code
use Rattle.book_ledger.specs.declared.placed.Condition.TheVariants as codes
use Rattle.book_ledger.specs.declared.ledger.Ledger.{Ledger}
use Rattle.book_ledger.specs.declared.fault.TokenFault.{TokenFault}
use Rattle.book_ledger.specs.declared.fault.TokenFault.TheVariants as token
use Rattle.book_ledger.specs.Inside.{call_in, asked_by, placed_in, condition_of, book_of, AreTied, IsAsked, StandsAt}
use Rattle.book_ledger.specs.Refusals.{IsNow, IsAnswerable}
use Rattle.book_ledger.specs.Turns.{TurnStops, TokenStops}
use Rattle.book_ledger.proofs.Runs.{sound}
use Rattle.book_ledger.proofs.Conditions.{running_book}

same_one : {X : Type 0} (x y : X) → Some x ≡ Some y → x ≡ y
same_one x y e = cc

never_some : {X : Type 0} {x : X} → None ≡ Some x → ⊥
never_some e = cc

-- ---- calls by their numbers

pub from_one : (recorded : List RecordedCall) (n : ℕ) (c : RecordedCall) → call_at recorded n ≡ Some c → 1 ≤ n
from_one recorded zero c e = absurd (never_some e)
from_one recorded (suc n) c e = omega arith

pub at_most : (recorded : List RecordedCall) (n : ℕ) (c : RecordedCall) → call_at recorded n ≡ Some c → n ≤ length recorded
at_most recorded zero c e = absurd (never_some e)
at_most [] (suc n) c e = absurd (never_some e)
at_most (d ∷ recorded) (suc zero) c e = omega arith
at_most (d ∷ recorded) (suc (suc n)) c e = let rest : suc n ≤ length recorded = at_most recorded (suc n) c e in omega (arith, rest)

pub at_place : (recorded : List RecordedCall) (n : ℕ) (c : RecordedCall) → call_at recorded n ≡ Some c → slice_get recorded (n - 1) ≡ Some c
at_place recorded zero c e = absurd (never_some e)
at_place recorded (suc n) c e = subst (λ (m : ℕ). slice_get recorded m ≡ Some c) one_less e where
  one_less : n ≡ suc n - 1
  one_less = omega arith

pub asked_is : (recorded : List RecordedCall) (n : ℕ) (c : RecordedCall) (asked : NfsCall) → call_at recorded n ≡ Some c → c.meaning ≡ meanings.Judged asked → asked_by recorded n ≡ asked
asked_is recorded n c asked at judged = ap (λ (o : Option RecordedCall). option_map_or (λ (d : RecordedCall). call_in d.meaning) o (calls.GetAttr [])) at ∙ ap call_in judged

pub unjudged_never : (a c : RecordedCall) (asked : NfsCall) (o : Option RecordedCall) → o ≡ Some a → o ≡ Some c → a.meaning ≡ meanings.Judged asked → c.meaning ≡ meanings.Unjudged → ⊥
unjudged_never a c asked o e f judged isnt = clash (sym judged ∙ ap (λ (d : RecordedCall). d.meaning) (same_one a c (sym e ∙ f)) ∙ isnt) where
  clash : meanings.Judged asked ≡ meanings.Unjudged → ⊥
  clash g = cc

-- ---- the message of a call

pub stood_there : (events seen : List owned.Event) (i : ℕ) (e x : owned.Event) → seen ≡ events → slice_get events i ≡ Some e → x ≡ get_or seen i x → x ≡ e
stood_there events seen i e x same at is = is ∙ ap (λ (es : List owned.Event). get_or es i x) same ∙ get_or_from_slice_get events i e x at

pub same_message : (x : owned.Event) (l m : ℕ) (a c : List ℕ) → x ≡ owns.Call l a → x ≡ owns.Call m c → a ≡ c
same_message x l m a c e f = parts (sym e ∙ f) where
  parts : owns.Call l a ≡ owns.Call m c → a ≡ c
  parts g = cc

call_there : (events : List owned.Event) (i lane : ℕ) (message : List ℕ) → slice_get (all_happened events) i ≡ Some (call lane message) → slice_get events i ≡ Some (owns.Call lane message)
call_there [] i lane message e = absurd (never_some e)
call_there (owns.Call l m ∷ events) zero lane message e = ap Some (parts e) where
  parts : Some (call l m) ≡ Some (call lane message) → owns.Call l m ≡ owns.Call lane message
  parts f = cc
call_there (owns.Reply l m ∷ events) zero lane message e = absurd (cc)
call_there (owns.Close l ∷ events) zero lane message e = absurd (cc)
call_there (owns.Crash ∷ events) zero lane message e = absurd (cc)
call_there (x ∷ events) (suc i) lane message e = call_there events i lane message e

pub record HasSent (h : HistoryValue) (c : RecordedCall) : Type 0 where
  pub place : ℕ
  pub asked : IsAskedAt (calls_of (all_happened h.events)) place c
  pub began : BeganAt h c asked.event
  pub sent : slice_get h.events (c.begin - 1) ≡ Some (owns.Call c.lane asked.event.message)

pub has_sent : (h : HistoryValue) (n : ℕ) (c : RecordedCall) → IsHistory (recording_of h) h → call_at h.known.calls n ≡ Some c → HasSent h c
has_sent h n c is at =
    let asked = event_of (calls_of (all_happened h.events)) h.known.calls (n - 1) c is.known.calls (at_place h.known.calls n c at) in
    let began = began_at h (n - 1) c asked in
    record {
      place = n - 1;
      asked = asked;
      began = began;
      sent = subst (λ (l : ℕ). slice_get h.events (c.begin - 1) ≡ Some (owns.Call l asked.event.message)) (sym asked.recorded.lane)
          (call_there h.events (c.begin - 1) asked.event.lane asked.event.message began.event);
    }

-- ---- a call's turn

pub down_isnt : (condition : code.Condition) → condition ≡ codes.Down → condition ≢ codes.Running
down_isnt condition e f = clash (sym e ∙ f) where
  clash : codes.Down ≡ codes.Running → ⊥
  clash g = cc

pub dead_isnt : (condition : code.Condition) → condition ≡ codes.Dead → condition ≢ codes.Running
dead_isnt condition e f = clash (sym e ∙ f) where
  clash : codes.Dead ≡ codes.Running → ⊥
  clash g = cc

pub not_running : (condition : code.Condition) → condition ≢ codes.Running → condition_of condition ≢ running
not_running condition isnt e = isnt (running_book condition e)

module _ (ledger : Ledger) (device : Device) (t : AreTied ledger device) (number : ℕ) where
  abbrev book : Book
  book = book_of ledger device

  abbrev recorded : List RecordedCall
  recorded = ledger.history.known.calls

  pub down_stops : ledger.condition ≢ codes.Running → TokenStops book number token.Down
  down_stops isnt = not_running ledger.condition isnt

  pub over_stops : (c : RecordedCall) → ledger.condition ≡ codes.Running → call_at recorded number ≡ Some c → c.era ≢ ledger.history.known.eras → TokenStops book number (token.EraOver ledger.history.known.eras)
  over_stops c runs at over = (ap condition_of runs, record { call = c; recorded = at; era = over }, refl)

  pub closed_stops : (c : RecordedCall) → ledger.condition ≡ codes.Running → call_at recorded number ≡ Some c → c.era ≡ ledger.history.known.eras → IsLaneState c.lane (all_happened ledger.history.events) lanes.Closed
      → TokenStops book number token.LaneClosed
  closed_stops c runs at now closed = (ap condition_of runs, record { call = c; recorded = at; era = now; closed = closed })

  -- the lane of a call of the era now isn't cut off
  pub uncut : (c : RecordedCall) → call_at recorded number ≡ Some c → c.era ≡ ledger.history.known.eras → IsLaneState c.lane (all_happened ledger.history.events) lanes.EraOver → ⊥
  uncut c at now off = call_has (λ (d : RecordedCall). d.era ≡ ledger.history.known.eras → IsCutOff d.lane (all_happened ledger.history.events) → ⊥) recorded number c (sound book t.reached).uncut at now off

  pub is_now : (c : RecordedCall) → call_at recorded number ≡ Some c → c.era ≡ ledger.history.known.eras → IsLaneState c.lane (all_happened ledger.history.events) lanes.Open → IsNow book number
  is_now c at now is_open = (c, record { recorded = at; era = now; is_open = is_open })

  -- ---- where it stands

  stood_at : (xs : List PlacedCall) (place : ℕ) (p : PlacedCall) → slice_get xs place ≡ Some p → IsUnplaced (map (placed_in recorded) xs) number → p.number ≢ number
  stood_at [] place p at un = absurd (never_some at)
  stood_at (x ∷ xs) zero p at un = λ same. un.0 (ap (λ (y : PlacedCall). y.number) (same_one x p at) ∙ same)
  stood_at (x ∷ xs) (suc place) p at un = stood_at xs place p at un.1

  unplaced_all : (xs : List PlacedCall) → ((place : ℕ) (p : PlacedCall) → slice_get xs place ≡ Some p → p.number ≢ number) → IsUnplaced (map (placed_in recorded) xs) number
  unplaced_all [] each = tt
  unplaced_all (x ∷ xs) each = (each zero x refl, unplaced_all xs (λ place p at. each (suc place) p at))

  module _ (state : CallState) (state_at : slice_get ledger.calls.items (number - 1) ≡ Some state) where
    pub placed_there : (c : RecordedCall) (place : ℕ) → call_at recorded number ≡ Some c → c.era ≡ ledger.history.known.eras → state.place ≡ Some place → StandsAt ledger number place
    placed_there c place at now has = t.placed.there number place c state at now state_at has

    pub placed_already : (c : RecordedCall) (place : ℕ) → call_at recorded number ≡ Some c → c.era ≡ ledger.history.known.eras → state.place ≡ Some place → ¬ IsUnplaced book.placed number
    placed_already c place at now has un =
        let there = t.placed.there number place c state at now state_at has in
        stood_at ledger.placed.items place there.0 there.1 un there.2

    pub unplaced : state.place ≡ None → IsUnplaced book.placed number
    unplaced none = unplaced_all ledger.placed.items each where
      each : (place : ℕ) (p : PlacedCall) → slice_get ledger.placed.items place ≡ Some p → p.number ≢ number
      each place p at same =
          let has = t.placed.has place p at in
          let one : has.0 ≡ state = same_one has.0 state (sym has.1 ∙ ap (λ (n : ℕ). slice_get ledger.calls.items (n - 1)) same ∙ state_at) in
          never_some (sym none ∙ sym (ap (λ (s : CallState). s.place) one) ∙ has.2)

  -- it can't be answered
  pub unplaced_unanswerable : IsUnplaced book.placed number → ¬ ((ahead : List Placed) × (step : Placed) × IsAnswerable book number ahead step)
  unplaced_unanswerable un is =
      (all_behind (λ (s : Placed). s.number ≢ number) is.0 (is.1 ∷ is.2.behind) (subst (λ (xs : List Placed). IsUnplaced xs number) is.2.placed un)).0 is.2.named

  pub answered_unanswerable : IsSome (end_of recorded number) → ¬ ((ahead : List Placed) × (step : Placed) × IsAnswerable book number ahead step)
  answered_unanswerable some is = gone (end_of recorded number) is.2.unanswered some where
    gone : (o : Option ℕ) → o ≡ None → IsSome o → ⊥
    gone o e s = cc

-- a call that may not be placed or answered, for another reason than its turn
pub turn_stops : (A B : Type 0) (b : Book) (number : ℕ) (fault : TokenFault) → (A → B) → TurnStops A b number fault → TurnStops B b number fault
turn_stops A B b number token.Down goes s = s
turn_stops A B b number (token.EraOver now) goes s = s
turn_stops A B b number token.LaneClosed goes s = s
turn_stops A B b number token.OutOfTurn goes s = (s.0, goes s.1)

-- ---- each placed call was asked

pub judged_asked : (ledger : Ledger) (device : Device) → AreTied ledger device → (number : ℕ) (c : RecordedCall) → call_at ledger.history.known.calls number ≡ Some c → IsAsked ledger.history.known.calls number
judged_asked ledger device t number c at =
    let judged = call_has (λ (d : RecordedCall). (asked : NfsCall) × (d.meaning ≡ meanings.Judged asked)) ledger.history.known.calls number c (sound (book_of ledger device) t.reached).judged at in
    (c, judged.0, at, judged.1)
