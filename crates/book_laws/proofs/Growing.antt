-- histories with one event more
use Rattle.std.proofs.Common.{◌≡◌, ◌==◌, ◌&&◌, ◌||◌, ℕ, zero, suc, ◌+◌, ◌-◌, ◌<◌, Bool, true, false, cond, List, [], ◌∷◌, ◌++◌, length, map, Option, Some, None, refl, sym, ap, subst, ◌∙◌, arith, append-nil, add-zero}
use Rattle.std.specs.Prelude.{is_none, option_map, nat_lt, not, unwrap_or, if◌then◌else◌}
use Rattle.std.specs.List.{list_any, slice_get}
use Rattle.std.proofs.lemmas.Bool.{eqb-true, eq-eqb, ne_eqb}
use Rattle.std.proofs.lemmas.List.{length-map, length-append, append_assoc}
use Rattle.std.proofs.lemmas.Option.{slice_get-map, same_Some}
use Rattle.nfs3_types.specs.declared.calls.NfsCall.{NfsCall}
use Rattle.nfs3_types.specs.declared.replies.NfsReply.{NfsReply}
use Rattle.nfs3_types.specs.declared.replies.Outcome.{Outcome}
use Rattle.nfs3_types.specs.declared.replies.Outcome.TheVariants as outcomes
use Rattle.rpc_reader.specs.Values.{CallValue}
use Rattle.rpc_reader.specs.Values.Body.{success}
use Rattle.rpc_reader.specs.Messages.{IsCall}
use Rattle.rpc_reader.proofs.OneMessage.{one_head}
use Rattle.nfs3_msgs.specs.Messages.{IsResult}
use Rattle.history_file.specs.declared.event.Event as owned
use Rattle.history_file.specs.declared.event.Event.TheVariants as owns
use Rattle.history_file.specs.Event.{Event}
use Rattle.history_file.specs.Event.Event.{call, reply, close}
use Rattle.history_file.specs.Owning.{happened, all_happened}
use Rattle.nfs_history.specs.declared.recorded.Meaning.TheVariants as meanings
use Rattle.nfs_history.specs.declared.recorded.RecordedCall.{RecordedCall}
use Rattle.nfs_history.specs.declared.fault.Which.{Which}
use Rattle.nfs_history.specs.HistoryValue.{CallsValue, HistoryValue}
use Rattle.nfs_history.specs.Appending.{IsQuiet}
use Rattle.nfs_history.specs.Calls.{ReplyEvent, CallEvent, calls_of, eras_from, xid_of}
use Rattle.nfs_history.specs.Checking.{is_place, AnswersWait}
use Rattle.nfs_history.specs.History.{IsJudged, IsKnownAs, Means, IsRecorded, AreRecorded, IsHistory, recording_of}
use Rattle.nfs_history.specs.Matching.{same_key}
use Rattle.nfs_history.specs.Outside.{outside, was_failure, asked_size}
use Rattle.nfs_history.specs.declared.fault.Which.TheVariants as which
use Rattle.nfs3_types.specs.declared.calls.NfsCall.TheVariants as calls
use Rattle.nfs3_types.specs.Limits.{file_limit}
use Rattle.nfs_history.specs.declared.recorded.Meaning.{Meaning}
use Rattle.nfs_history.specs.Standing.{IsClosed, is_unanswered, has_unanswered, MayFollow, EachMayFollow}
use Rattle.nfs_history.proofs.JudgingSteps.{AreRecorded-push}
use Rattle.nfs_history.proofs.Lanes.{eras_quiet, eras_crash}
use Rattle.nfs_history.proofs.Unanswered.{calls_from-quiet, and_true}
use Rattle.nfs_history.proofs.AppendSteps.{IsAsked, began_at, answered_by}
use Rattle.nfs_history.proofs.Waiting.{one_further, new_call, calls_from-call, answered_if, reply_at, calls_from-reply, waits-one, none_waits, waits-answered}
use Rattle.book_laws.specs.Steps.{begun, with_call, answered_now, change_at, with_reply, with_close, with_crash, IsRecordable, IsAnswerTo}

-- ---- what holds of a history that grows

-- at most one call waits for an answer with these
pub record IsWaiting (lane xid : ℕ) (calls : List CallEvent) : Type 0 where
  pub place : Option ℕ
  pub waits : AnswersWait lane xid place 0 calls
  pub within : (p : ℕ) → place ≡ Some p → p < length calls

pub record IsGenuine (h : HistoryValue) : Type 0 where
  pub is_history : IsHistory (recording_of h) h
  pub waiting : (lane xid : ℕ) → IsWaiting lane xid (calls_of (all_happened h.events))

follow_push : (before events : List Event) (e : Event) → EachMayFollow before events → MayFollow (before ++ events) e → EachMayFollow before (events ++ e ∷ [])
follow_push before [] e all may = (subst (λ (b : List Event). MayFollow b e) (append-nil before) may, tt)
follow_push before (f ∷ events) e all may =
    (all.0, follow_push (before ++ f ∷ []) events e all.1 (subst (λ (b : List Event). MayFollow b e) (sym (append_assoc before (f ∷ []) events)) may))

happened_push : (events : List owned.Event) (e : owned.Event) → all_happened (events ++ e ∷ []) ≡ all_happened events ++ happened e ∷ []
happened_push [] e = refl
happened_push (x ∷ events) e = ap (λ xs. happened x ∷ xs) (happened_push events e)

-- what is known of a history, of which the event is the last
grown : (h : HistoryValue) (e : owned.Event) (known : CallsValue) → IsGenuine h → MayFollow (all_happened h.events) (happened e) → known.head ≡ h.known.head
    → known.eras ≡ eras_from 1 (all_happened h.events ++ happened e ∷ []) → AreRecorded (calls_of (all_happened h.events ++ happened e ∷ [])) known.calls
    → ((lane xid : ℕ) → IsWaiting lane xid (calls_of (all_happened h.events ++ happened e ∷ [])))
    → IsGenuine (record { known = known; events = h.events ++ e ∷ []; spare = 0 })
grown h e known g may head eras calls waiting =
    let same = sym (happened_push h.events e) in
    record {
      is_history = record {
        known = record {
          follow = subst (EachMayFollow []) same (follow_push [] (all_happened h.events) (happened e) g.is_history.known.follow may);
          head = refl;
          eras = eras ∙ ap (eras_from 1) same;
          calls = subst (λ (es : List Event). AreRecorded (calls_of es) known.calls) same calls;
        };
        events = refl;
      };
      waiting = λ lane xid. subst (λ (es : List Event). IsWaiting lane xid (calls_of es)) same (waiting lane xid);
    }

-- ---- a call

same_parts : (lane xid l x : ℕ) → same_key (lane, xid) (l, x) ≡ true → (lane ≡ l) × (xid ≡ x)
same_parts lane xid l x is = go (lane == l) refl is where
  go : (b : Bool) → (lane == l) ≡ b → (b && (xid == x)) ≡ true → (lane ≡ l) × (xid ≡ x)
  go true on of = (eqb-true lane l on, eqb-true xid x of)
  go false on of = absurd (cc)

not_there : (k : ℕ) (o : Option ℕ) → ((place : ℕ) → o ≡ Some place → place < k) → is_place k o ≡ false
not_there k None within = refl
not_there k (Some place) within = let lt : place < k = within place refl in ne_eqb k place (λ same. omega (arith, lt, same))

waiting_call : (calls : List CallEvent) (lane : ℕ) (message : List ℕ) (begin era : ℕ) → list_any (is_unanswered lane (xid_of message)) calls ≡ false → (l x : ℕ) → IsWaiting l x calls
    → IsWaiting l x (calls ++ new_call lane message begin era ∷ [])
waiting_call calls lane message begin era free l x w = go (same_key (lane, xid_of message) (l, x)) refl where
  one : length (calls ++ new_call lane message begin era ∷ []) ≡ length calls + 1
  one = length-append calls (new_call lane message begin era ∷ [])

  at_end : 0 + length calls ≡ length calls
  at_end = omega arith

  go : (b : Bool) → same_key (lane, xid_of message) (l, x) ≡ b → IsWaiting l x (calls ++ new_call lane message begin era ∷ [])
  go true is =
      let parts = same_parts lane (xid_of message) l x is in
      let none : list_any (is_unanswered l x) calls ≡ false = subst (λ n. list_any (is_unanswered n x) calls ≡ false) parts.0 (subst (λ n. list_any (is_unanswered lane n) calls ≡ false) parts.1 free) in
      record {
        place = Some (length calls);
        waits = waits-one l x 0 (Some (length calls)) calls (new_call lane message begin era) (none_waits l x 0 (length calls) calls none (omega arith))
            (and_true (same_key (lane, xid_of message) (l, x)) ∙ is ∙ sym (eq-eqb (0 + length calls) (length calls) at_end));
        within = λ p e. last p (is_last p e);
      } where
        is_last : (p : ℕ) → Some (length calls) ≡ Some p → length calls ≡ p
        is_last p e = cc

        last : (p : ℕ) → length calls ≡ p → p < length (calls ++ new_call lane message begin era ∷ [])
        last p e = omega (arith, e, one)
  go false is = record {
    place = w.place;
    waits = waits-one l x 0 w.place calls (new_call lane message begin era) w.waits
        (and_true (same_key (lane, xid_of message) (l, x)) ∙ is ∙ sym (not_there (0 + length calls) w.place (λ p e. further p (w.within p e))));
    within = λ p e. longer p (w.within p e);
  } where
    further : (p : ℕ) → p < length calls → p < 0 + length calls
    further p lt = omega (arith, lt)

    longer : (p : ℕ) → p < length calls → p < length (calls ++ new_call lane message begin era ∷ [])
    longer p lt = omega (arith, lt, one)

pub genuine_call : (h : HistoryValue) (lane : ℕ) (message : List ℕ) (asked : NfsCall) → IsGenuine h → ¬ IsClosed lane (all_happened h.events)
    → has_unanswered lane (xid_of message) (all_happened h.events) ≡ false → IsRecordable message asked → IsGenuine (with_call h lane message asked)
genuine_call h lane message asked g is_open free r =
    let before = all_happened h.events in
    let more = new_call lane message (1 + length before) (eras_from 1 before) in
    let calls_are = sym (calls_from-call 1 1 before lane message) in
    let number : length h.events + 1 ≡ 1 + length before = omega (arith, length-map h.events happened) in
    let recorded : IsRecorded more (begun h lane message asked) = record {
      lane = refl;
      xid = refl;
      begin = number;
      «end» = refl;
      era = g.is_history.known.eras;
      means = (r.head, None, r.is_call, refl, record { of_nfs = r.of_nfs; accepted = refl; came_out = refl; inside = r.inside });
    } in
    grown h (owns.Call lane message) (with_call h lane message asked).known g (is_open, (r.head, r.is_call), free) refl
    (g.is_history.known.eras ∙ sym (eras_quiet 1 before (call lane message) refl))
    (subst (λ cs. AreRecorded cs (h.known.calls ++ begun h lane message asked ∷ [])) calls_are
    (AreRecorded-push (calls_of before) h.known.calls more (begun h lane message asked) g.is_history.known.calls recorded))
    (λ l x. subst (IsWaiting l x) calls_are (waiting_call (calls_of before) lane message (1 + length before) (eras_from 1 before) free l x (g.waiting l x)))

-- ---- a close and a crash

quiet : (h : HistoryValue) (e : owned.Event) (eras : ℕ) → IsGenuine h → MayFollow (all_happened h.events) (happened e) → IsQuiet (happened e) → eras ≡ eras_from 1 (all_happened h.events ++ happened e ∷ [])
    → IsGenuine (record { known = record { head = h.known.head; eras = eras; calls = h.known.calls }; events = h.events ++ e ∷ []; spare = 0 })
quiet h e eras g may still eras_are =
    let calls_are = sym (calls_from-quiet 1 1 (all_happened h.events) (happened e) still) in
    grown h e (record { head = h.known.head; eras = eras; calls = h.known.calls }) g may refl eras_are (subst (λ cs. AreRecorded cs h.known.calls) calls_are g.is_history.known.calls)
    (λ l x. subst (IsWaiting l x) calls_are (g.waiting l x))

pub genuine_close : (h : HistoryValue) (lane : ℕ) → IsGenuine h → ¬ IsClosed lane (all_happened h.events) → IsGenuine (with_close h lane)
genuine_close h lane g is_open = quiet h (owns.Close lane) h.known.eras g is_open tt (g.is_history.known.eras ∙ sym (eras_quiet 1 (all_happened h.events) (close lane) refl))

pub genuine_crash : (h : HistoryValue) → IsGenuine h → IsGenuine (with_crash h)
genuine_crash h g = quiet h owns.Crash (h.known.eras + 1) g tt tt (ap (λ n. n + 1) g.is_history.known.eras ∙ sym (eras_crash 1 (all_happened h.events)))

-- ---- a reply

none_answered : (l x place k : ℕ) (r : ReplyEvent) (events : List CallEvent) → AnswersWait l x (Some place) k events → place < k → map (answered_if l x r) events ≡ events
none_answered l x place k r [] waits lt = refl
none_answered l x place k r (c ∷ events) waits lt =
    let not_here : is_unanswered l x c ≡ false = waits.0 ∙ ne_eqb k place (λ same. omega (arith, lt, same)) in
    ap (λ b. cond b (answered_by r c) c ∷ map (answered_if l x r) events) not_here
    ∙ ap (λ (es : List CallEvent). c ∷ es) (none_answered l x place (k + 1) r events waits.1 (omega (arith, lt)))

-- the call that waits is answered, and no other
recorded_told : (l x k j : ℕ) (r : ReplyEvent) (told : RecordedCall → RecordedCall) (events : List CallEvent) (calls : List RecordedCall) (e : CallEvent) (c : RecordedCall) → AreRecorded events calls
    → AnswersWait l x (Some (k + j)) k events → slice_get events j ≡ Some e → slice_get calls j ≡ Some c → IsRecorded (answered_by r e) (told c)
    → AreRecorded (map (answered_if l x r) events) (change_at told j calls)
recorded_told l x k j r told [] calls e c all waits at of is = absurd (cc)
recorded_told l x k j r told (d ∷ events) [] e c all waits at of is = absurd all
recorded_told l x k zero r told (d ∷ events) (f ∷ calls) e c all waits at of is =
    let same : d ≡ e = same_Some d e at in
    let here : is_unanswered l x d ≡ true = waits.0 ∙ eq-eqb k (k + 0) (sym (add-zero k)) in
    let rest = none_answered l x (k + 0) (k + 1) r events waits.1 (omega arith) in
    subst (λ (es : List CallEvent). AreRecorded es (told f ∷ calls))
    (sym (ap (λ b. cond b (answered_by r d) d ∷ map (answered_if l x r) events) here ∙ ap (λ (es : List CallEvent). answered_by r d ∷ es) rest))
    (subst (λ (y : CallEvent). IsRecorded (answered_by r y) (told f)) (sym same) (subst (λ (z : RecordedCall). IsRecorded (answered_by r e) (told z)) (sym (same_Some f c of)) is), all.1)
recorded_told l x k (suc j) r told (d ∷ events) (f ∷ calls) e c all waits at of is =
    let other : is_unanswered l x d ≡ false = waits.0 ∙ ne_eqb k (k + suc j) (λ same. omega (arith, same)) in (
      subst (λ (y : CallEvent). IsRecorded y f) (sym (ap (λ b. cond b (answered_by r d) d) other)) all.0,
      recorded_told l x (k + 1) j r told events calls e c all.1 (subst (λ n. AnswersWait l x (Some n) (k + 1) events) (sym (one_further k j)) waits.1) at of is,
    )

-- the event of a call
pub event_of : (events : List CallEvent) (calls : List RecordedCall) (j : ℕ) (c : RecordedCall) → AreRecorded events calls → slice_get calls j ≡ Some c → IsAsked events j c
event_of [] [] j c all at = absurd (cc)
event_of [] (d ∷ calls) j c all at = absurd all
event_of (e ∷ events) [] j c all at = absurd all
event_of (e ∷ events) (d ∷ calls) zero c all at = record { event = e; at = refl; recorded = subst (IsRecorded e) (same_Some d c at) all.0 }
event_of (e ∷ events) (d ∷ calls) (suc j) c all at = let rest = event_of events calls j c all.1 at in record { event = rest.event; at = rest.at; recorded = rest.recorded }

waits_at : (l x k j : ℕ) (place : Option ℕ) (events : List CallEvent) (e : CallEvent) → AnswersWait l x place k events → slice_get events j ≡ Some e → is_unanswered l x e ≡ is_place (k + j) place
waits_at l x k j place [] e waits at = absurd (cc)
waits_at l x k zero place (c ∷ events) e waits at = ap (is_unanswered l x) (sym (same_Some c e at)) ∙ waits.0 ∙ ap (λ n. is_place n place) (sym (add-zero k))
waits_at l x k (suc j) place (c ∷ events) e waits at = waits_at l x (k + 1) j place events e waits.1 at ∙ ap (λ n. is_place n place) (one_further k j)

place_is : (n : ℕ) (place : Option ℕ) → is_place n place ≡ true → place ≡ Some n
place_is n None e = absurd (cc)
place_is n (Some p) e = ap Some (sym (eqb-true n p e))

any_at : {X : Type 0} (test : X → Bool) (xs : List X) (j : ℕ) (x : X) → slice_get xs j ≡ Some x → test x ≡ true → list_any test xs ≡ true
any_at test [] j x at is = absurd (cc)
any_at test (y ∷ xs) zero x at is = ap (λ b. b || list_any test xs) (ap test (same_Some y x at) ∙ is)
any_at test (y ∷ xs) (suc j) x at is = go (test y) (any_at test xs j x at is) where
  go : (b : Bool) → list_any test xs ≡ true → (b || list_any test xs) ≡ true
  go true e = refl
  go false e = e

unended : (o : Option ReplyEvent) → option_map (λ (r : ReplyEvent). r.number) o ≡ None → is_none o ≡ true
unended None e = refl
unended (Some r) e = absurd (cc)

-- what is inside the model while there is no answer is so with each one
either_none : (b : Bool) (c : Bool) (w : Which) → (if b && true then Some w else None) ≡ None → (if b && c then Some w else None) ≡ None
either_none true c w e = absurd (cc)
either_none false c w e = refl

inside_still : (asked : NfsCall) (outcome : Option Outcome) → outside asked None ≡ None → outside asked outcome ≡ None
inside_still (calls.SetAttr a) outcome e = either_none (nat_lt file_limit (unwrap_or a.attributes.size 0)) (not (was_failure outcome)) which.TooFar e
inside_still (calls.Create a) outcome e = either_none (nat_lt file_limit (asked_size a.mode)) (not (was_failure outcome)) which.TooFar e
inside_still (calls.Write a) outcome e = go (not (a.count == length a.bytes)) e where
  go : (b : Bool) → (if b then Some which.CountDiffers else (if (nat_lt 0 a.count && nat_lt file_limit (a.offset + a.count)) && true then Some which.TooFar else None)) ≡ None
      → (if b then Some which.CountDiffers else (if (nat_lt 0 a.count && nat_lt file_limit (a.offset + a.count)) && not (was_failure outcome) then Some which.TooFar else None)) ≡ None
  go true f = absurd (cc)
  go false f = either_none (nat_lt 0 a.count && nat_lt file_limit (a.offset + a.count)) (not (was_failure outcome)) which.TooFar f
inside_still (calls.GetAttr a) outcome e = refl
inside_still (calls.Lookup a) outcome e = refl
inside_still (calls.ReadLink a) outcome e = refl
inside_still (calls.Read a) outcome e = refl
inside_still (calls.MkDir a) outcome e = refl
inside_still (calls.SymLink a) outcome e = refl
inside_still (calls.Remove a) outcome e = refl
inside_still (calls.RmDir a) outcome e = refl
inside_still (calls.Rename a) outcome e = refl
inside_still (calls.ReadDir a) outcome e = refl
inside_still (calls.ReadDirPlus a) outcome e = refl
inside_still (calls.Commit a) outcome e = refl

waiting_reply : (calls : List CallEvent) (lane xid : ℕ) (r : ReplyEvent) (l x : ℕ) → IsWaiting l x calls → IsWaiting l x (map (answered_if lane xid r) calls)
waiting_reply calls lane xid r l x w = record {
  place = cond (same_key (lane, xid) (l, x)) None w.place;
  waits = waits-answered lane xid l x 0 r w.place calls w.waits;
  within = λ p e. subst (λ (n : ℕ). p < n) (sym (length-map calls (answered_if lane xid r))) (go (same_key (lane, xid) (l, x)) p e);
} where
  go : (b : Bool) (p : ℕ) → cond b None w.place ≡ Some p → p < length calls
  go true p e = absurd (cc)
  go false p e = w.within p e

module _ (h : HistoryValue) (g : IsGenuine h) (place : ℕ) (recorded : RecordedCall) (asked : NfsCall) (sent answer : List ℕ) (given : NfsReply)
    (at : slice_get h.known.calls place ≡ Some recorded) (judged : recorded.meaning ≡ meanings.Judged asked) (still : recorded.«end» ≡ None)
    (is_open : ¬ IsClosed recorded.lane (all_happened h.events)) (message : slice_get h.events (recorded.begin - 1) ≡ Some (owns.Call recorded.lane sent)) (inside : outside asked None ≡ None)
    (to : IsAnswerTo sent answer given) where
  abbrev before : List Event
  before = all_happened h.events

  abbrev r : ReplyEvent
  r = reply_at (1 + length before) answer

  is_asked : IsAsked (calls_of before) place recorded
  is_asked = event_of (calls_of before) h.known.calls place recorded g.is_history.known.calls at

  -- the call's message is the one that was sent
  call_parts : (l l' : ℕ) (m m' : List ℕ) → call l m ≡ call l' m' → m ≡ m'
  call_parts l l' m m' e = cc

  sent_so : sent ≡ is_asked.event.message
  sent_so =
      let began = began_at h place recorded is_asked in
      call_parts recorded.lane is_asked.event.lane sent is_asked.event.message
      (same_Some _ _ (sym (slice_get-map happened h.events (recorded.begin - 1) ∙ ap (option_map happened) message) ∙ began.event))

  xid_so : xid_of answer ≡ recorded.xid
  xid_so = to.xid ∙ ap xid_of sent_so ∙ sym is_asked.recorded.xid

  waits_here : is_unanswered recorded.lane (xid_of answer) is_asked.event ≡ true
  waits_here =
      let on = eq-eqb is_asked.event.lane recorded.lane (sym is_asked.recorded.lane) in
      let of = eq-eqb (xid_of is_asked.event.message) (xid_of answer) (sym (xid_so ∙ is_asked.recorded.xid)) in
      let none = unended is_asked.event.answer (sym is_asked.recorded.«end» ∙ still) in
      ap (λ b. (b && (xid_of is_asked.event.message == xid_of answer)) && is_none is_asked.event.answer) on
      ∙ ap (λ b. b && is_none is_asked.event.answer) of ∙ none

  place_so : (g.waiting recorded.lane (xid_of answer)).place ≡ Some (0 + place)
  place_so =
      let w = g.waiting recorded.lane (xid_of answer) in
      place_is (0 + place) w.place (sym (waits_at recorded.lane (xid_of answer) 0 place w.place (calls_of before) is_asked.event w.waits is_asked.at) ∙ waits_here)

  number : length h.events + 1 ≡ 1 + length before
  number = omega (arith, length-map h.events happened)

  head_so : (head : CallValue) → IsCall is_asked.event.message head → to.head ≡ head
  head_so head is_call = one_head is_asked.event.message to.head head (subst (λ (m : List ℕ). IsCall m to.head) sent_so to.is_call) is_call

  means : Means is_asked.event recorded.meaning recorded.outcome → Means (answered_by r is_asked.event) recorded.meaning (Some (outcomes.Received given))
  means m =
      let known : IsJudged m.0 m.1 asked recorded.outcome = subst (λ (n : Meaning). IsKnownAs m.0 m.1 n recorded.outcome) judged m.4 in (
        m.0,
        Some (success to.results),
        m.2,
        (record { xid = to.head.xid; body = success to.results }, to.is_reply, refl),
        subst (λ (n : Meaning). IsKnownAs m.0 (Some (success to.results)) n (Some (outcomes.Received given))) (sym judged)
            (record {
              of_nfs = known.of_nfs;
              accepted = refl;
              came_out = (given, subst (λ (v : CallValue). IsResult v.procedure to.results given) (head_so m.0 m.2) to.is_result, refl);
              inside = inside_still asked (Some (outcomes.Received given)) inside;
            }),
      )

  told : IsRecorded (answered_by r is_asked.event) (answered_now h (outcomes.Received given) recorded)
  told =
      let known = is_asked.recorded in
      record { lane = known.lane; xid = known.xid; begin = known.begin; «end» = ap Some number; era = known.era; means = means known.means }

  pub genuine_reply : IsGenuine (with_reply h (place + 1) recorded.lane answer (outcomes.Received given))
  genuine_reply =
      let calls_are = sym (calls_from-reply 1 1 before recorded.lane answer) in
      let w = g.waiting recorded.lane (xid_of answer) in
      let waits : AnswersWait recorded.lane (xid_of answer) (Some (0 + place)) 0 (calls_of before) = subst (λ (o : Option ℕ). AnswersWait recorded.lane (xid_of answer) o 0 (calls_of before)) place_so w.waits in
      let at_place : place ≡ place + 1 - 1 = omega arith in
      let all = recorded_told recorded.lane (xid_of answer) 0 place r (answered_now h (outcomes.Received given)) (calls_of before) h.known.calls is_asked.event recorded g.is_history.known.calls waits is_asked.at at told in
      let some : has_unanswered recorded.lane (xid_of answer) before ≡ true = any_at (is_unanswered recorded.lane (xid_of answer)) (calls_of before) place is_asked.event is_asked.at waits_here in
      grown h (owns.Reply recorded.lane answer) (with_reply h (place + 1) recorded.lane answer (outcomes.Received given)).known g
      (is_open, (record { xid = to.head.xid; body = success to.results }, to.is_reply), some) refl
      (g.is_history.known.eras ∙ sym (eras_quiet 1 before (reply recorded.lane answer) refl))
      (subst (λ n. AreRecorded (calls_of (before ++ reply recorded.lane answer ∷ [])) (change_at (answered_now h (outcomes.Received given)) n h.known.calls)) at_place
      (subst (λ cs. AreRecorded cs (change_at (answered_now h (outcomes.Received given)) place h.known.calls)) calls_are all))
      (λ l x. subst (IsWaiting l x) calls_are (waiting_reply (calls_of before) recorded.lane (xid_of answer) r l x (g.waiting l x)))
