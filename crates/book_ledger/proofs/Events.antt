-- a book whose history gets an event
use Rattle.std.specs.List.{range_with_len}
use Rattle.std.proofs.Common.{◌≡◌, ◌⊎◌, inl, inr, ℕ, zero, suc, ◌+◌, ◌-◌, ◌<◌, Bool, false, List, [], ◌∷◌, ◌++◌, length, map, Some, None, refl, sym, ap, ◌∙◌, subst, arith, append-nil}
use Rattle.std.specs.Prelude.{slice_get, if◌then◌else◌}
use Rattle.std.specs.Option.{option_map_or}
use Rattle.std.specs.List.{AllByRecursion}
use Rattle.std.proofs.lemmas.List.{append_assoc, length-append}
use Rattle.nfs3_types.specs.declared.calls.NfsCall.TheVariants as calls
use Rattle.history_file.specs.declared.event.Event as owned
use Rattle.history_file.specs.declared.event.Event.TheVariants as owns
use Rattle.history_file.specs.Event.{Event, Recording}
use Rattle.history_file.specs.Event.Event.{call}
use Rattle.history_file.specs.Owning.{happened, all_happened}
use Rattle.nfs_history.specs.declared.recorded.RecordedCall.{RecordedCall}
use Rattle.nfs_history.specs.HistoryValue.{HistoryValue}
use Rattle.nfs_history.specs.Appending.{with_event, Follows}
use Rattle.nfs_history.specs.History.{AreCallsOf, IsHistory, recording_of}
use Rattle.nfs_history.specs.Calls.{xid_of}
use Rattle.nfs_history.specs.Precedence.{call_at}
use Rattle.nfs_history.specs.Standing.{IsClosed, has_unanswered, MayFollow, EachMayFollow}
use Rattle.nfs_history.proofs.OneHistory.{known_once}
use Rattle.journal.specs.Device.{Device}
use Rattle.book_laws.specs.Placing.{Placed}
use Rattle.book_laws.specs.Book.{Book}
use Rattle.book_laws.specs.Steps.{begun, with_call, with_close, Begins, Closes}
use Rattle.book_laws.specs.Steps.Steps.{begins, closes}
use Rattle.book_laws.proofs.Growing.{genuine_call, genuine_close}
use Rattle.book_laws.proofs.Invariant.{Over, AreKnown, AllKnown, IsInvariant}
use Rattle.book_laws.proofs.Lists.{all_append}
use Rattle.book_laws.proofs.Moving.{call_stays}
use Rattle.book_ledger.specs.declared.placed.PlacedCall.{PlacedCall}
use Rattle.book_ledger.specs.declared.placed.EraOver.{EraOver}
use Rattle.book_ledger.specs.declared.placed.CallState.{CallState}
use Rattle.book_ledger.specs.declared.placed.Condition.TheVariants as codes
use Rattle.book_ledger.specs.declared.ledger.Ledger.{Ledger}
use Rattle.book_ledger.specs.Recordable.{CanBeRecorded}
use Rattle.book_ledger.specs.Inside.{call_in, placed_in, era_in, made_from, made_in, condition_of, book_of, ArePlaced, IsShort, AreTied, OnlyHistory}
use Rattle.book_ledger.proofs.Runs.{happened_push, sound}
use Rattle.book_ledger.proofs.Tied.{over_in, placed_now, tied_with, book_with}

-- ---- histories

follow_last : (before events : List Event) (e : Event) → EachMayFollow before (events ++ e ∷ []) → MayFollow (before ++ events) e
follow_last before [] e all = subst (λ (b : List Event). MayFollow b e) (sym (append-nil before)) all.0
follow_last before (f ∷ events) e all = subst (λ (b : List Event). MayFollow b e) (append_assoc before (f ∷ []) events) (follow_last (before ++ f ∷ []) events e all.1)

-- a history of the same events is the one that stands there
pub history_is : (old new target : HistoryValue) (event : owned.Event) → Follows old event new → target.events ≡ old.events ++ event ∷ [] → target.known.head ≡ old.known.head → target.spare ≡ 0
    → IsHistory (recording_of target) target → record new { spare = 0 } ≡ target
history_is old new target event follows events head spare is =
    let happened_is : all_happened target.events ≡ all_happened old.events ++ happened event ∷ [] = ap all_happened events ∙ happened_push old.events event in
    let seen : recording_of target ≡ with_event old event = λ i. record { head = head i; events = happened_is i } in
    let known : new.known ≡ target.known = known_once (with_event old event) new.known target.known follows.history.known (subst (λ (r : Recording). AreCallsOf r target.known) seen is.known) in
    let same : new.events ≡ target.events = follows.events ∙ sym events in
    λ i. record { known = known i; events = same i; spare = sym spare i }

-- ---- lists with one item more

pub slice_stays : {X : Type 0} (xs : List X) (x : X) (n : ℕ) (y : X) → slice_get xs n ≡ Some y → slice_get (xs ++ x ∷ []) n ≡ Some y
slice_stays [] x n y e = absurd (cc)
slice_stays (z ∷ xs) x zero y e = e
slice_stays (z ∷ xs) x (suc n) y e = slice_stays xs x n y e

pub slice_was : {X : Type 0} (xs : List X) (x : X) (n : ℕ) (y : X) → slice_get (xs ++ x ∷ []) n ≡ Some y → ((n < length xs) × (slice_get xs n ≡ Some y)) ⊎ (y ≡ x)
slice_was [] x zero y e = inr (is e) where
  is : Some x ≡ Some y → y ≡ x
  is f = cc
slice_was [] x (suc n) y e = absurd (cc)
slice_was (z ∷ xs) x zero y e = inl (omega arith, e)
slice_was {X} (z ∷ xs) x (suc n) y e = go (slice_was xs x n y e) where
  go : ((n < length xs) × (slice_get xs n ≡ Some y)) ⊎ (y ≡ x) → ((suc n < suc (length xs)) × (slice_get xs n ≡ Some y)) ⊎ (y ≡ x)
  go (inl (lt, was)) = inl (omega (arith, lt), was)
  go (inr is) = inr is

call_inside : (recorded : List RecordedCall) (more : RecordedCall) (n : ℕ) (c : RecordedCall) → call_at (recorded ++ more ∷ []) n ≡ Some c → n - 1 < length recorded → call_at recorded n ≡ Some c
call_inside recorded more zero c e lt = absurd (cc)
call_inside [] more (suc n) c e lt = absurd (none lt) where
  none : suc n - 1 < 0 → ⊥
  none f = omega (arith, f)
call_inside (d ∷ recorded) more (suc zero) c e lt = e
call_inside (d ∷ recorded) more (suc (suc n)) c e lt = call_inside recorded more (suc n) c e (less lt) where
  less : suc (suc n) - 1 < suc (length recorded) → suc n - 1 < length recorded
  less f = omega (arith, f)

made_quiet : (n : ℕ) (states : List CallState) (s : CallState) → s.made ≡ false → made_from n states ≡ made_from n (states ++ s ∷ [])
made_quiet n [] s e = sym (ap (λ (b : Bool). if b then n ∷ [] else []) e)
made_quiet n (x ∷ states) s e = ap (λ (rest : List ℕ). if x.made then n ∷ rest else rest) (made_quiet (n + 1) states s e)

-- ---- a call more

module _ (recorded : List RecordedCall) (more : RecordedCall) where
  abbrev longer : List RecordedCall
  longer = recorded ++ more ∷ []

  same_step : (e : ℕ) (x : PlacedCall) → (c : RecordedCall) → call_at recorded x.number ≡ Some c → placed_in recorded x ≡ placed_in longer x
  same_step e x c at =
      let same : call_at recorded x.number ≡ call_at longer x.number = at ∙ sym (call_stays recorded more x.number c at) in
      λ i. record { number = x.number; call = option_map_or (λ (d : RecordedCall). call_in d.meaning) (same i) (calls.GetAttr []); outcome = x.outcome }

  same_steps : (e : ℕ) (xs : List PlacedCall) → AreKnown recorded e (map (placed_in recorded) xs) → map (placed_in recorded) xs ≡ map (placed_in longer) xs
  same_steps e [] known = refl
  same_steps e (x ∷ xs) known = λ i. same_step e x known.0.call known.0.recorded i ∷ same_steps e xs known.1 i

  pub same_over : (e : ℕ) (over : List EraOver) (placed : List Placed) → AllKnown recorded e (map (era_in recorded) over) placed → map (era_in recorded) over ≡ map (era_in longer) over
  same_over e [] placed known = refl
  same_over e (x ∷ over) placed known = λ i. (record { steps = same_steps e x.placed.items known.0 i; kept = x.kept }) ∷ same_over (e + 1) over placed known.1 i

  pub same_placed : (e : ℕ) (over : List Over) (xs : List PlacedCall) → AllKnown recorded e over (map (placed_in recorded) xs) → map (placed_in recorded) xs ≡ map (placed_in longer) xs
  same_placed e [] xs known = same_steps e xs known
  same_placed e (x ∷ over) xs known = same_placed (e + 1) over xs known.1

abbrev pub fresh : CallState
fresh = record { place = None; made = false }

module _ (old new : Ledger) (device : Device) (t : AreTied old device) (lane : ℕ) (message : List ℕ) (running : old.condition ≡ codes.Running) (is_open : ¬ IsClosed lane (all_happened old.history.events))
    (taken : CanBeRecorded message) (only : OnlyHistory old new) (follows : Follows old.history (owns.Call lane message) new.history) (states : new.calls.items ≡ old.calls.items ++ fresh ∷ []) where
  abbrev book : Book
  book = book_of old device

  invariant : IsInvariant book
  invariant = (sound book t.reached).invariant

  abbrev recorded : List RecordedCall
  recorded = old.history.known.calls

  abbrev target : HistoryValue
  target = with_call book.history lane message taken.call

  abbrev begun_now : RecordedCall
  begun_now = begun book.history lane message taken.call

  free : has_unanswered lane (xid_of message) (all_happened old.history.events) ≡ false
  free = (follow_last [] (all_happened old.history.events) (call lane message) follows.history.known.follow).2

  history_so : record new.history { spare = 0 } ≡ target
  history_so =
      history_is old.history new.history target (owns.Call lane message) follows refl refl refl
      (genuine_call book.history lane message taken.call invariant.genuine is_open free taken.recordable).is_history

  over_so : over_in recorded old ≡ over_in target.known.calls old
  over_so = same_over recorded begun_now 1 old.over.items (placed_now recorded old) invariant.known

  placed_so : placed_now recorded old ≡ placed_now target.known.calls old
  placed_so = same_placed recorded begun_now 1 (over_in recorded old) old.placed.items invariant.known

  made_so : made_in (length old.history.known.head.start) old.calls.items ≡ made_in (length old.history.known.head.start) new.calls.items
  made_so = ap (λ (xs : List ℕ). range_with_len 1 (length old.history.known.head.start) ++ xs) (made_quiet ((length old.history.known.head.start) + 1) old.calls.items fresh refl) ∙ ap (made_in (length old.history.known.head.start)) (sym states)

  step : Begins book lane message (record book { history = target })
  step = record { running = ap condition_of running; is_open = is_open; free = free; call = taken.call; recordable = taken.recordable; done = refl }

  abbrev parts_then : Ledger
  parts_then = record old { history = target; calls = new.calls }

  places_so : ArePlaced parts_then
  places_so = record {
    count = ap length states ∙ length-append old.calls.items (fresh ∷ []) ∙ ap (λ (n : ℕ). n + 1) t.placed.count ∙ sym (length-append recorded (begun_now ∷ []));
    there = λ number place c state at era stands has. go number place c state at era has (slice_was old.calls.items fresh (number - 1) state (sym (ap (λ xs. slice_get xs (number - 1)) states) ∙ stands));
    has = λ place p at. (let h = t.placed.has place p at in (h.0, ap (λ xs. slice_get xs (p.number - 1)) states ∙ slice_stays old.calls.items fresh (p.number - 1) h.0 h.1, h.2));
  } where
    no_place : {state : CallState} {place : ℕ} → state ≡ fresh → state.place ≡ Some place → ⊥
    no_place is has = cc

    go : (number place : ℕ) (c : RecordedCall) (state : CallState) → call_at target.known.calls number ≡ Some c → c.era ≡ old.history.known.eras → state.place ≡ Some place
        → ((number - 1 < length old.calls.items) × (slice_get old.calls.items (number - 1) ≡ Some state)) ⊎ (state ≡ fresh)
        → (p : PlacedCall) × (slice_get old.placed.items place ≡ Some p) × (p.number ≡ number)
    go number place c state at era has (inl (lt, was)) =
        t.placed.there number place c state (call_inside recorded begun_now number c at (subst (λ (n : ℕ). number - 1 < n) t.placed.count lt)) era was has
    go number place c state at era has (inr is) = absurd (no_place is has)

  short_so : AllByRecursion IsShort target.events
  short_so = all_append IsShort old.history.events (owns.Call lane message ∷ []) t.short (taken.within, tt)

  pub begins_tied : AreTied new device
  begins_tied = tied_with old new device t only target history_so over_so placed_so made_so refl (begins lane message step) places_so short_so

  pub begins_so : Begins book lane message (book_of new device)
  begins_so = subst (λ (b : Book). Begins book lane message b) (sym (book_with old new device t only target history_so over_so placed_so made_so refl)) step

-- ---- a lane that is closed

module _ (old new : Ledger) (device : Device) (t : AreTied old device) (lane : ℕ) (is_open : ¬ IsClosed lane (all_happened old.history.events)) (only : OnlyHistory old new)
    (follows : Follows old.history (owns.Close lane) new.history) (states : new.calls.items ≡ old.calls.items) where
  abbrev shut : HistoryValue
  shut = with_close (book_of old device).history lane

  shut_so : record new.history { spare = 0 } ≡ shut
  shut_so = history_is old.history new.history shut (owns.Close lane) follows refl refl refl (genuine_close (book_of old device).history lane (sound (book_of old device) t.reached).invariant.genuine is_open).is_history

  close_step : Closes (book_of old device) lane (record (book_of old device) { history = shut })
  close_step = record { is_open = is_open; done = refl }

  pub closes_tied : AreTied new device
  closes_tied =
      tied_with old new device t only shut shut_so refl refl (ap (made_in (length old.history.known.head.start)) (sym states)) refl (closes lane close_step)
      (record {
        count = ap length states ∙ t.placed.count;
        there = λ number place c state at era stands has. t.placed.there number place c state at era (sym (ap (λ xs. slice_get xs (number - 1)) states) ∙ stands) has;
        has = λ place p at. (let h = t.placed.has place p at in (h.0, ap (λ xs. slice_get xs (p.number - 1)) states ∙ h.1, h.2));
      }) (all_append IsShort old.history.events (owns.Close lane ∷ []) t.short (tt, tt))

  pub closes_so : Closes (book_of old device) lane (book_of new device)
  closes_so = subst (λ (b : Book). Closes (book_of old device) lane b) (sym (book_with old new device t only shut shut_so refl refl (ap (made_in (length old.history.known.head.start)) (sym states)) refl)) close_step
