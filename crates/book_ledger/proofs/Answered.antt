-- a call of a book that is answered
use Rattle.std.proofs.Common.{◌≡◌, ◌⊎◌, inl, inr, ◌↔◌, ℕ, zero, suc, ◌+◌, ◌-◌, ◌<◌, ◌≤◌, Bool, true, false, List, [], ◌∷◌, ◌++◌, length, map, Option, Some, None, refl, sym, ap, ◌∙◌, subst, arith}
use Rattle.std.specs.Prelude.{IsTrue, slice_get, option_and_then, if◌then◌else◌}
use Rattle.std.specs.List.{AllByRecursion}
use Rattle.rpc_reader.specs.Values.Body.{success}
use Rattle.rpc_reader.specs.Messages.{IsReply}
use Rattle.nfs3_types.specs.declared.calls.NfsCall.{NfsCall}
use Rattle.nfs3_types.specs.declared.calls.NfsCall.TheVariants as calls
use Rattle.nfs3_types.specs.declared.replies.NfsReply.{NfsReply}
use Rattle.nfs3_types.specs.declared.replies.Outcome.{Outcome}
use Rattle.nfs3_types.specs.declared.replies.Outcome.TheVariants as outcomes
use Rattle.nfs3_types.specs.Procedures.{is_answered}
use Rattle.nfs3_msgs.specs.Messages.{result_text}
use Rattle.history_file.specs.declared.event.Event.TheVariants as owns
use Rattle.nfs_history.specs.declared.recorded.Meaning.TheVariants as meanings
use Rattle.nfs_history.specs.declared.recorded.RecordedCall.{RecordedCall}
use Rattle.nfs_history.specs.HistoryValue.{HistoryValue}
use Rattle.nfs_history.specs.Appending.{Follows}
use Rattle.nfs_history.specs.History.{Returns}
use Rattle.nfs_history.specs.Precedence.{call_at, end_of}
use Rattle.journal.specs.Device.{Device}
use Rattle.std.proofs.Common.{get_or, not, Result, Ok, Err}
use Rattle.std.specs.Prelude.{IfOk, OnOk, OnErr, IfErr}
use Rattle.std.proofs.lemmas.Option.{get_or_from_slice_get, slice_get_within}
use Rattle.book_laws.specs.Book.Condition.{running}
use Rattle.book_ledger.specs.declared.fault.TokenFault.{TokenFault}
use Rattle.book_ledger.specs.declared.fault.TokenFault.TheVariants as token
use Rattle.book_ledger.specs.declared.fault.AnswerFault.{AnswerFault}
use Rattle.book_ledger.specs.declared.fault.AnswerFault.TheVariants as answer_faults
use Rattle.book_ledger.specs.JoinedFaults.{of_token_to_answer}
use Rattle.book_ledger.specs.Refusals.{AnswerStops}
use Rattle.book_ledger.specs.Turns.{PlacedStops}
use Rattle.book_ledger.specs.Inside.{IsAsked}
use Rattle.book_ledger.proofs.Conditions.{running_book}
use Rattle.book_laws.specs.Placing.{Placed, is_recorded, records_in}
use Rattle.cut_check.specs.Effect.{effect_of}
use Rattle.cut_check.specs.declared.effect.Effect.TheVariants.{Lasting}
use Rattle.book_laws.specs.Steps.{commits}
use Rattle.book_laws.proofs.Running.{head_is, tail_is}
use Rattle.book_laws.proofs.Stable.{records_append}
use Rattle.book_ledger.specs.Recordable.{step_so}
use Rattle.book_ledger.specs.Inside.{AreCounted}
use Rattle.book_laws.specs.Book.{Book, records_kept}
use Rattle.book_laws.specs.Steps.{answered_now, change_at, with_reply, reply_message, IsAnswerTo, IsDurable, Answers}
use Rattle.book_laws.specs.Steps.Steps.{answers}
use Rattle.book_laws.proofs.Invariant.{Over, IsKnown, AreKnown, AllKnown}
use Rattle.book_laws.proofs.Lists.{all_append, all_behind}
use Rattle.book_laws.proofs.Kept.{kept}
use Rattle.book_ledger.specs.declared.placed.PlacedCall.{PlacedCall}
use Rattle.book_ledger.specs.declared.placed.EraOver.{EraOver}
use Rattle.book_ledger.specs.declared.placed.Condition.TheVariants as codes
use Rattle.book_ledger.specs.declared.ledger.Ledger.{Ledger}
use Rattle.book_ledger.specs.Inside.{asked_by, placed_in, era_in, made_in, condition_of, book_of, ArePlaced, IsShort, AreTied, OnlyHistory, StandsAt}
use Rattle.book_ledger.specs.Refusals.{IsNow, IsAnswerable}
use Rattle.book_ledger.specs.Turns.{IsDurableAt, IsAnswerAt, AnswersAt}
use Rattle.book_ledger.specs.Spelling.{Spelled, IsSpelled, IsPlacedWith, IsOfCall}
use Rattle.book_ledger.proofs.Runs.{IsReplyTo, IsSound, sound}
use Rattle.book_ledger.proofs.Tied.{over_in, placed_now, tied_with, book_with}
use Rattle.book_ledger.proofs.Events.{history_is}
use Rattle.book_ledger.proofs.Standing.{HasSent, has_sent, judged_asked}
use Rattle.book_ledger.proofs.AnswersTo.{answers_it}

-- ---- parts of a list

pub record Parts {X : Type 0} (xs : List X) (place : ℕ) (x : X) : Type 0 where
  pub ahead : List X
  pub behind : List X
  pub parts : xs ≡ ahead ++ x ∷ behind
  pub length_is : length ahead ≡ place

pub parts_at : {X : Type 0} (xs : List X) (place : ℕ) (x : X) → slice_get xs place ≡ Some x → Parts xs place x
parts_at [] place x e = absurd (cc)
parts_at (y ∷ xs) zero x e = record { ahead = []; behind = xs; parts = ap (λ z. z ∷ xs) (one e); length_is = refl } where
  one : Some y ≡ Some x → y ≡ x
  one f = cc
parts_at (y ∷ xs) (suc place) x e = let p = parts_at xs place x e in
    record { ahead = y ∷ p.ahead; behind = p.behind; parts = ap (λ zs. y ∷ zs) p.parts; length_is = ap suc p.length_is }

pub mapped_parts : {X Y : Type 0} (f : X → Y) (xs : List X) (place : ℕ) (x : X) → slice_get xs place ≡ Some x → Parts (map f xs) place (f x)
mapped_parts f [] place x e = absurd (cc)
mapped_parts f (y ∷ xs) zero x e = record { ahead = []; behind = map f xs; parts = ap (λ z. f z ∷ map f xs) (one e); length_is = refl } where
  one : Some y ≡ Some x → y ≡ x
  one g = cc
mapped_parts f (y ∷ xs) (suc place) x e = let p = mapped_parts f xs place x e in
    record { ahead = f y ∷ p.ahead; behind = p.behind; parts = ap (λ zs. f y ∷ zs) p.parts; length_is = ap suc p.length_is }

-- what stands there has what all have
pub has_there : (P : Placed → Type 0) (ahead : List Placed) (step : Placed) (behind : List Placed) → AllByRecursion P (ahead ++ step ∷ behind) → P step
has_there P ahead step behind all = (all_behind P ahead (step ∷ behind) all).0

known_last : (recorded : List RecordedCall) (e : ℕ) (over : List Over) (placed : List Placed) → AllKnown recorded e over placed → AreKnown recorded (e + length over) placed
known_last recorded e [] placed known = subst (λ (n : ℕ). AreKnown recorded n placed) (omega arith) known
known_last recorded e (x ∷ over) placed known = subst (λ (n : ℕ). AreKnown recorded n placed) (omega arith) (known_last recorded (e + 1) over placed known.1)

-- ---- a call that is changed asked what it asked

module _ (history : HistoryValue) (outcome : Outcome) where
  abbrev told : RecordedCall → RecordedCall
  told = answered_now history outcome

  asked_told : (recorded : List RecordedCall) (m n : ℕ) → asked_by recorded n ≡ asked_by (change_at told m recorded) n
  asked_told recorded m zero = refl
  asked_told [] m (suc n) = refl
  asked_told (c ∷ recorded) zero (suc zero) = refl
  asked_told (c ∷ recorded) (suc m) (suc zero) = refl
  asked_told (c ∷ recorded) zero (suc (suc n)) = refl
  asked_told (c ∷ recorded) (suc m) (suc (suc n)) = asked_told recorded m (suc n)

  abbrev placed_by : (ℕ → NfsCall) → PlacedCall → Placed
  placed_by ask placed = record { number = placed.number; call = ask placed.number; outcome = placed.outcome }

  asks : (recorded : List RecordedCall) (m : ℕ) → asked_by recorded ≡ asked_by (change_at told m recorded)
  asks recorded m = λ i n. asked_told recorded m n i

  pub placed_told : (recorded : List RecordedCall) (m : ℕ) (xs : List PlacedCall) → map (placed_in recorded) xs ≡ map (placed_in (change_at told m recorded)) xs
  placed_told recorded m xs = ap (λ (ask : ℕ → NfsCall). map (placed_by ask) xs) (asks recorded m)

  pub over_told : (recorded : List RecordedCall) (m : ℕ) (xs : List EraOver) → map (era_in recorded) xs ≡ map (era_in (change_at told m recorded)) xs
  over_told recorded m xs = ap (λ (ask : ℕ → NfsCall). map (λ (e : EraOver). record { steps = map (placed_by ask) e.placed.items; kept = e.kept }) xs) (asks recorded m)

  pub told_length : (m : ℕ) (recorded : List RecordedCall) → length (change_at told m recorded) ≡ length recorded
  told_length m [] = refl
  told_length zero (c ∷ recorded) = refl
  told_length (suc m) (c ∷ recorded) = ap suc (told_length m recorded)

  pub told_was : (recorded : List RecordedCall) (m n : ℕ) (c : RecordedCall) → call_at (change_at told m recorded) n ≡ Some c → (d : RecordedCall) × (call_at recorded n ≡ Some d) × (d.era ≡ c.era)
  told_was recorded m zero c e = absurd (cc)
  told_was [] m (suc n) c e = absurd (cc)
  told_was (d ∷ recorded) zero (suc zero) c e = (d, refl, ap (λ (x : RecordedCall). x.era) (one e)) where
    one : Some (told d) ≡ Some c → told d ≡ c
    one f = cc
  told_was (d ∷ recorded) (suc m) (suc zero) c e = (d, refl, ap (λ (x : RecordedCall). x.era) (one e)) where
    one : Some d ≡ Some c → d ≡ c
    one f = cc
  told_was (d ∷ recorded) zero (suc (suc n)) c e = (c, e, refl)
  told_was (d ∷ recorded) (suc m) (suc (suc n)) c e = told_was recorded m (suc n) c e

-- ---- the answer

module _ (old : Ledger) (device : Device) (t : AreTied old device) (number place : ℕ) (now : IsNow (book_of old device) number) (running : old.condition ≡ codes.Running)
    (unanswered : end_of old.history.known.calls number ≡ None) (answer : List ℕ) (given : IsAnswerAt old number place answer) (named : given.placed.number ≡ number)
    (durable : IsDurableAt (records_kept (book_of old device)) device.mark (book_of old device).placed place) where
  abbrev book : Book
  book = book_of old device

  s : IsSound book
  s = sound book t.reached

  abbrev recorded : List RecordedCall
  recorded = old.history.known.calls

  abbrev this : RecordedCall
  this = now.0

  abbrev step : Placed
  step = placed_in recorded given.placed

  there : Parts book.placed place step
  there = mapped_parts (placed_in recorded) old.placed.items place given.placed given.stands

  one_call : (c d : RecordedCall) → Some c ≡ Some d → c ≡ d
  one_call c d e = cc

  call_is : given.call ≡ this
  call_is = one_call given.call this (sym given.recorded ∙ now.1.recorded)

  known : IsKnown recorded (1 + length book.over) step
  known =
      has_there (IsKnown recorded (1 + length book.over)) there.ahead step there.behind
      (subst (AreKnown recorded (1 + length book.over)) there.parts (known_last recorded 1 book.over book.placed s.invariant.known))

  known_is : known.call ≡ this
  known_is = one_call known.call this (sym known.recorded ∙ ap (call_at recorded) named ∙ now.1.recorded)

  judged : this.meaning ≡ meanings.Judged step.call
  judged = ap (λ (c : RecordedCall). c.meaning) (sym known_is) ∙ known.judged

  replied : IsReplyTo step
  replied = has_there IsReplyTo there.ahead step there.behind (subst (AllByRecursion IsReplyTo) there.parts s.replied)

  one_reply : (a b : NfsReply) → outcomes.Received a ≡ outcomes.Received b → a ≡ b
  one_reply a b e = cc

  right : is_answered step.call given.reply ≡ true
  right = subst (λ (r : NfsReply). is_answered step.call r ≡ true) (one_reply replied.reply given.reply (sym replied.received ∙ given.received)) replied.right

  sent : HasSent book.history this
  sent = has_sent book.history number this s.invariant.genuine.is_history now.1.recorded

  answers_to : IsAnswerTo sent.asked.event.message answer given.reply
  answers_to =
      answers_it book.history this step.call given.reply answer sent judged right (subst (λ (c : RecordedCall). IsReply answer (record { xid = c.xid; body = success (result_text given.reply) })) call_is given.is_reply)
      given.is_result

  unended : this.«end» ≡ None
  unended = sym (ap (option_and_then (λ (c : RecordedCall). c.«end»)) now.1.recorded) ∙ unanswered

  abbrev target : HistoryValue
  target = with_reply book.history number this.lane answer step.outcome

  abbrev told_calls : List RecordedCall
  told_calls = change_at (answered_now book.history step.outcome) (number - 1) recorded

  answer_step : Answers book number (record book { history = target })
  answer_step = record {
    running = ap condition_of running;
    recorded = this;
    call = step.call;
    message = sent.asked.event.message;
    answer = answer;
    of_now = now.1;
    judged = judged;
    sent = sent.sent;
    unanswered = unended;
    ahead = there.ahead;
    step = step;
    behind = there.behind;
    placed = there.parts;
    named = named;
    reply = given.reply;
    received = given.received;
    answers = answers_to;
    spelled = given.spelled ∙ ap (λ (c : RecordedCall). reply_message c.xid given.reply) call_is;
    durable = durable there.ahead there.behind step there.parts there.length_is;
    done = refl;
  }

  module _ (new : Ledger) (only : OnlyHistory old new) (follows : Follows old.history (owns.Reply this.lane answer) new.history) (states : new.calls.items ≡ old.calls.items) where
    history_so : record new.history { spare = 0 } ≡ target
    history_so =
        history_is old.history new.history target (owns.Reply this.lane answer) follows refl refl refl
        (kept book (record book { history = target }) s.invariant (answers number answer_step)).genuine.is_history

    over_so : over_in recorded old ≡ over_in told_calls old
    over_so = over_told book.history step.outcome recorded (number - 1) old.over.items

    placed_so : placed_now recorded old ≡ placed_now told_calls old
    placed_so = placed_told book.history step.outcome recorded (number - 1) old.placed.items

    places_so : ArePlaced (record old { history = target; calls = new.calls })
    places_so = record {
      count = ap length states ∙ t.placed.count ∙ sym (told_length book.history step.outcome (number - 1) recorded);
      there = λ n p c state at era stands has. (let was = told_was book.history step.outcome recorded (number - 1) n c at in
          t.placed.there n p was.0 state was.1 (was.2 ∙ era) (sym (ap (λ xs. slice_get xs (n - 1)) states) ∙ stands) has);
      has = λ p one at. (let h = t.placed.has p one at in (h.0, ap (λ xs. slice_get xs (one.number - 1)) states ∙ h.1, h.2));
    }

    pub answers_tied : AreTied new device
    answers_tied =
        tied_with old new device t only target history_so over_so placed_so (ap (made_in (length old.history.known.head.start)) (sym states)) refl (answers number answer_step) places_so
        (all_append IsShort old.history.events (owns.Reply this.lane answer ∷ []) t.short (tt, tt))

    pub answers_so : Answers book number (book_of new device)
    answers_so = subst (λ (b : Book). Answers book number b) (sym (book_with old new device t only target history_so over_so placed_so (ap (made_in (length old.history.known.head.start)) (sym states)) refl)) answer_step

-- ---- it may not go out yet

pub answerable : (old : Ledger) (device : Device) (number place : ℕ) → IsNow (book_of old device) number → end_of old.history.known.calls number ≡ None → (p : PlacedCall) → slice_get old.placed.items place ≡ Some p
    → p.number ≡ number → (there : Parts (book_of old device).placed place (placed_in old.history.known.calls p)) → IsAnswerable (book_of old device) number there.ahead (placed_in old.history.known.calls p)
answerable old device number place now unanswered p at named there = record { now = now; unanswered = unanswered; behind = there.behind; placed = there.parts; named = named }

-- ---- whether it may go out

counted_parts : (recorded : List RecordedCall) (k : ℕ) (xs : List PlacedCall) (place : ℕ) (p : PlacedCall) → slice_get xs place ≡ Some p → AreCounted k recorded xs → (ahead : List Placed) (step : Placed) (behind : List Placed)
    → map (placed_in recorded) xs ≡ ahead ++ step ∷ behind → length ahead ≡ place → (step ≡ placed_in recorded p) × (p.records ≡ k + records_in (ahead ++ step ∷ []))
counted_parts recorded k [] place p at c ahead step behind e len = absurd (none at) where
  none : None ≡ Some p → ⊥
  none f = cc
counted_parts recorded k (x ∷ xs) zero p at c [] step behind e len = (here, there) where
  one : Some x ≡ Some p → x ≡ p
  one f = cc

  here : step ≡ placed_in recorded p
  here = sym (head_is e) ∙ ap (placed_in recorded) (one at)

  there : p.records ≡ k + records_in (step ∷ [])
  there = sym (ap (λ (y : PlacedCall). y.records) (one at)) ∙ c.0 ∙ ap (λ (s : Placed). k + records_in (s ∷ [])) (head_is e)
counted_parts recorded k (x ∷ xs) zero p at c (a ∷ ahead) step behind e len = absurd (none len) where
  none : suc (length ahead) ≡ 0 → ⊥
  none f = omega (arith, f)
counted_parts recorded k (x ∷ xs) (suc place) p at c [] step behind e len = absurd (none len) where
  none : 0 ≡ suc place → ⊥
  none f = omega (arith, f)
counted_parts recorded k (x ∷ xs) (suc place) p at c (a ∷ ahead) step behind e len =
    let rest = counted_parts recorded x.records xs place p at c.1 ahead step behind (tail_is e) (less len) in
    (rest.0, joined (records_in (a ∷ [])) (records_in (ahead ++ step ∷ [])) (c.0 ∙ ap (λ (s : Placed). k + records_in (s ∷ [])) (head_is e)) rest.1 ∙ ap (λ (n : ℕ). k + n) (sym (records_append (a ∷ []) (ahead ++ step ∷ [])))) where
      less : suc (length ahead) ≡ suc place → length ahead ≡ place
      less f = omega (arith, f)

      joined : (m n : ℕ) → x.records ≡ k + m → p.records ≡ x.records + n → p.records ≡ k + (m + n)
      joined m n f g = omega (arith, f, g)

commit_unrecorded : (call : NfsCall) (outcome : Outcome) → commits (step_so call outcome) ≡ true → is_recorded (step_so call outcome) ≡ false
commit_unrecorded (calls.Commit a) outcome e = refl
commit_unrecorded _ outcome e = absurd (cc)

same_length_parts : (a c : List Placed) (s r : Placed) (b d : List Placed) → a ++ s ∷ b ≡ c ++ r ∷ d → length a ≡ length c → (a ≡ c) × (s ≡ r)
same_length_parts [] [] s r b d e len = (refl, head_is e)
same_length_parts [] (y ∷ c) s r b d e len = absurd (none len) where
  none : 0 ≡ suc (length c) → ⊥
  none f = omega (arith, f)
same_length_parts (x ∷ a) [] s r b d e len = absurd (none len) where
  none : suc (length a) ≡ 0 → ⊥
  none f = omega (arith, f)
same_length_parts (x ∷ a) (y ∷ c) s r b d e len = let rest = same_length_parts a c s r b d (tail_is e) (less len) in ((λ i. head_is e i ∷ rest.0 i), rest.1) where
  less : suc (length a) ≡ suc (length c) → length a ≡ length c
  less f = omega (arith, f)

module _ (ledger : Ledger) (device : Device) (t : AreTied ledger device) (number place mark : ℕ) (p : PlacedCall) (stands : slice_get ledger.placed.items place ≡ Some p) (named : p.number ≡ number) where
  abbrev these : List RecordedCall
  these = ledger.history.known.calls

  abbrev kept_then : ℕ
  kept_then = records_kept (book_of ledger device)

  plus_none : (n : ℕ) → n + 0 ≡ n
  plus_none n = omega arith

  at_parts : (ahead : List Placed) (step : Placed) (behind : List Placed) → (book_of ledger device).placed ≡ ahead ++ step ∷ behind → length ahead ≡ place
      → (step ≡ placed_in these p) × (p.records ≡ ledger.kept + records_in (ahead ++ step ∷ []))
  at_parts ahead step behind parts len = counted_parts these ledger.kept ledger.placed.items place p stands t.counted ahead step behind parts len

  pub near_durable : p.records ≤ mark → IsDurableAt kept_then mark (book_of ledger device).placed place
  near_durable le ahead behind step parts len =
      let c = at_parts ahead step behind parts len in
      ((λ promise. whole (records_in (ahead ++ step ∷ [])) c.1), (λ commit. front (records_in ahead) (records_in (step ∷ [])) (c.1 ∙ ap (λ (n : ℕ). ledger.kept + n) (records_append ahead (step ∷ []))))) where
        whole : (n : ℕ) → p.records ≡ ledger.kept + n → kept_then + n ≤ mark
        whole n f = omega (arith, f, le, t.kept)

        front : (m n : ℕ) → p.records ≡ ledger.kept + (m + n) → kept_then + m ≤ mark
        front m n f = omega (arith, f, le, t.kept)

  abbrev Promises : Type 0
  Promises = (effect_of None (asked_by these number) p.outcome ≡ Lasting) ⊎ (commits (step_so (asked_by these number) p.outcome) ≡ true)

  as_placed : (Q : NfsCall → Type 0) → Q (placed_in these p).call → Q (asked_by these number)
  as_placed Q q = subst (λ (n : ℕ). Q (asked_by these n)) named q

  pub free_durable : ¬ Promises → IsDurableAt kept_then mark (book_of ledger device).placed place
  free_durable none ahead behind step parts len =
      let is = (at_parts ahead step behind parts len).0 in (
        (λ promise. absurd (none (inl (as_placed (λ call. effect_of None call p.outcome ≡ Lasting) (subst (λ (s : Placed). effect_of None s.call s.outcome ≡ Lasting) is promise))))),
        (λ commit. absurd (none (inr (as_placed (λ call. commits (step_so call p.outcome) ≡ true) (subst (λ (s : Placed). commits s ≡ true) is commit))))),
      )

  pub there_at : Parts (book_of ledger device).placed place (placed_in these p)
  there_at = mapped_parts (placed_in these) ledger.placed.items place p stands

  pub far_durable : mark < p.records → Promises → ¬ IsDurableAt kept_then mark (book_of ledger device).placed place
  far_durable lt promises durable = go promises where
    here : IsDurable kept_then mark there_at.ahead (placed_in these p)
    here = durable there_at.ahead there_at.behind (placed_in these p) there_at.parts there_at.length_is

    count : p.records ≡ ledger.kept + records_in (there_at.ahead ++ placed_in these p ∷ [])
    count = (at_parts there_at.ahead (placed_in these p) there_at.behind there_at.parts there_at.length_is).1

    back : (Q : NfsCall → Type 0) → Q (asked_by these number) → Q (placed_in these p).call
    back Q q = subst (λ (n : ℕ). Q (asked_by these n)) (sym named) q

    past : (n : ℕ) → p.records ≡ ledger.kept + n → kept_then + n ≤ mark → ⊥
    past n f le = omega (arith, f, le, lt, t.kept)

    go : Promises → ⊥
    go (inl lasting) = past (records_in (there_at.ahead ++ placed_in these p ∷ [])) count (here.0 (back (λ call. effect_of None call p.outcome ≡ Lasting) lasting))
    go (inr commit) =
        let same = back (λ call. commits (step_so call p.outcome) ≡ true) commit in
        let none : records_in (placed_in these p ∷ []) ≡ 0 = ap (λ (b : Bool). if b then 1 else 0) (commit_unrecorded (placed_in these p).call p.outcome same) in
        past (records_in there_at.ahead) (count ∙ ap (λ (n : ℕ). ledger.kept + n) (records_append there_at.ahead (placed_in these p ∷ []) ∙ ap (λ (n : ℕ). records_in there_at.ahead + n) none ∙ plus_none (records_in there_at.ahead))) (here.1 same)

  -- it may go out where its parts say so
  pub durable_by : IsDurable kept_then mark there_at.ahead (placed_in these p) → IsDurableAt kept_then mark (book_of ledger device).placed place
  durable_by d ahead behind step parts len =
      let same = same_length_parts ahead there_at.ahead step (placed_in these p) behind there_at.behind (sym parts ∙ there_at.parts) (len ∙ sym there_at.length_is) in
      subst (λ (xs : List Placed). IsDurable kept_then mark xs step) (sym same.0) (subst (λ (s : Placed). IsDurable kept_then mark there_at.ahead s) (sym same.1) d)

  pub not_yet : (now : IsNow (book_of ledger device) number) → end_of these number ≡ None → ¬ IsDurableAt kept_then mark (book_of ledger device).placed place
      → (ahead : List Placed) × (step : Placed) × IsAnswerable (book_of ledger device) number ahead step × (¬ IsDurable kept_then mark ahead step)
  not_yet now unanswered far =
      (there_at.ahead, placed_in these p, record { now = now; unanswered = unanswered; behind = there_at.behind; placed = there_at.parts; named = named }, (λ d. far (durable_by d)))

-- ---- what the private functions need

pub item_is : (xs : List PlacedCall) (place : ℕ) (p x : PlacedCall) → slice_get xs place ≡ Some p → x ≡ get_or xs place x → x ≡ p
item_is xs place p x at is = is ∙ get_or_from_slice_get xs place p x at

module _ (ledger : Ledger) (device : Device) (t : AreTied ledger device) (number place : ℕ) (stands : StandsAt ledger number place) where
  abbrev its_calls : List RecordedCall
  its_calls = ledger.history.known.calls

  abbrev its_step : Placed
  its_step = placed_in its_calls stands.0

  its_parts : Parts (book_of ledger device).placed place its_step
  its_parts = mapped_parts (placed_in its_calls) ledger.placed.items place stands.0 stands.1

  its_known : IsKnown its_calls (1 + length (book_of ledger device).over) its_step
  its_known =
      has_there (IsKnown its_calls (1 + length (book_of ledger device).over)) its_parts.ahead its_step its_parts.behind
      (subst (AreKnown its_calls (1 + length (book_of ledger device).over)) its_parts.parts
      (known_last its_calls 1 (book_of ledger device).over (book_of ledger device).placed (sound (book_of ledger device) t.reached).invariant.known))

  pub its_call : (call : RecordedCall) × (call_at its_calls number ≡ Some call)
  its_call = (its_known.call, ap (call_at its_calls) (sym stands.2) ∙ its_known.recorded)

  pub its_asked : IsAsked its_calls number
  its_asked = judged_asked ledger device t number its_call.0 its_call.1

  pub its_reply : (reply : NfsReply) × (stands.0.outcome ≡ outcomes.Received reply)
  its_reply = (its_known.reply, its_known.received)

  pub its_place : place < length ledger.placed.items
  its_place = slice_get_within ledger.placed.items place stands.0 stands.1

abbrev Told : NfsCall → Outcome → Type 0
Told k o = (effect_of None k o ≡ Lasting) ⊎ (commits (step_so k o) ≡ true)

-- the answer to whether it may go out
pub durable_turn : (ledger : Ledger) (device : Device) (t : AreTied ledger device) (number place mark : ℕ) (stands : StandsAt ledger number place) (b : Bool) (call : NfsCall) (outcome : Outcome)
    → call ≡ asked_by ledger.history.known.calls number → outcome ≡ stands.0.outcome
    → (IsTrue b ↔ ((effect_of None call outcome ≡ Lasting) ⊎ (commits (step_so call outcome) ≡ true))) → mark < stands.0.records
    → IsTrue (not b) ↔ IsDurableAt (records_kept (book_of ledger device)) mark (book_of ledger device).placed place
durable_turn ledger device t number place mark stands b call outcome call_is outcome_is told lt = go b told where
  moved : Told call outcome → Told (asked_by ledger.history.known.calls number) stands.0.outcome
  moved h = subst (λ (k : NfsCall). Told k stands.0.outcome) call_is (subst (λ (o : Outcome). Told call o) outcome_is h)

  back : Told (asked_by ledger.history.known.calls number) stands.0.outcome → Told call outcome
  back h = subst (λ (o : Outcome). Told call o) (sym outcome_is) (subst (λ (k : NfsCall). Told k stands.0.outcome) (sym call_is) h)

  wrong : false ≡ true → ⊥
  wrong e = cc

  go : (b : Bool) → (IsTrue b ↔ Told call outcome) → IsTrue (not b) ↔ IsDurableAt (records_kept (book_of ledger device)) mark (book_of ledger device).placed place
  go true h = ((λ e. absurd (wrong e)), (λ d. absurd (far_durable ledger device t number place mark stands.0 stands.1 stands.2 lt (moved (h.0 refl)) d)))
  go false h = ((λ e. free_durable ledger device t number place mark stands.0 stands.1 stands.2 (λ q. wrong (h.1 (back q)))), (λ d. refl))

pub returns_spelled : (message answer : List ℕ) (said reply : NfsReply) (xid : ℕ) → IsSpelled xid reply answer → message ≡ answer → said ≡ reply → Returns message said
returns_spelled message answer said reply xid s m r =
    subst (λ (n : NfsReply). Returns message n) (sym r) (subst (λ (a : List ℕ). Returns a reply) (sym m)
    (record { value = record { xid = xid; body = success (result_text reply) }; results = result_text reply; is_reply = s.is_reply; accepted = refl; result = s.is_result }))

pub put_so : (old new : HistoryValue) (given call : RecordedCall) (o : Option RecordedCall) (message answer : List ℕ) → o ≡ Some given → o ≡ Some call → message ≡ answer → Follows old (owns.Reply given.lane message) new
    → Follows old (owns.Reply call.lane answer) new
put_so old new given call o message answer e f same follows =
    subst (λ (c : RecordedCall). Follows old (owns.Reply c.lane answer) new) (one (sym e ∙ f)) (subst (λ (m : List ℕ). Follows old (owns.Reply given.lane m) new) same follows) where
      one : Some given ≡ Some call → given ≡ call
      one g = cc

pub on_ok_of : {X E : Type 0} (r : Result X E) (P Q : X → Type 0) (B : Type 0) → ((x : X) → P x → Q x → B) → IfOk r P → IfOk r Q → OnOk r B
on_ok_of (Ok x) P Q B goes p q = goes x p q
on_ok_of (Err e) P Q B goes p q = tt

pub if_err_by : {X E : Type 0} (r : Result X E) (P Q : E → Type 0) (H : Type 0) → ((e : E) → P e → H → Q e) → IfErr r P → OnErr r H → IfErr r Q
if_err_by (Ok x) P Q H goes p h = tt
if_err_by (Err e) P Q H goes p h = goes e p h

pub answer_stops : (b : Book) (number : ℕ) (fault : TokenFault) → PlacedStops b number fault → AnswerStops b number (of_token_to_answer fault)
answer_stops b number token.Down s = s
answer_stops b number (token.EraOver now) s = s
answer_stops b number token.LaneClosed s = s
answer_stops b number token.OutOfTurn s = s

module _ (old new : Ledger) (number place mark : ℕ) (stands : StandsAt old number place) (answer : List ℕ) (given : IsAnswerAt old number place answer) where
  given_named : given.placed.number ≡ number
  given_named = ap (λ (p : PlacedCall). p.number) (one (sym given.stands ∙ stands.1)) ∙ stands.2 where
    one : Some given.placed ≡ Some stands.0 → given.placed ≡ stands.0
    one e = cc

  module _ (device : Device) (t : AreTied old device) (at : device.mark ≡ mark) (ready : (condition_of old.condition ≡ running) × IsNow (book_of old device) number × (end_of old.history.known.calls number ≡ None))
      (durable : IsDurableAt (records_kept (book_of old device)) mark (book_of old device).placed place) (only : OnlyHistory old new) (states : new.calls.items ≡ old.calls.items)
      (follows : Follows old.history (owns.Reply ready.1.0.lane answer) new.history) where
    durable_here : IsDurableAt (records_kept (book_of old device)) device.mark (book_of old device).placed place
    durable_here = subst (λ (n : ℕ). IsDurableAt (records_kept (book_of old device)) n (book_of old device).placed place) (sym at) durable

    pub goes_answered : AreTied new device × Answers (book_of old device) number (book_of new device)
    goes_answered = (
      answers_tied old device t number place ready.1 (running_book old.condition ready.0) ready.2 answer given given_named durable_here new only follows states,
      answers_so old device t number place ready.1 (running_book old.condition ready.0) ready.2 answer given given_named durable_here new only follows states,
    )

pub memory_stops : (old : Ledger) (device : Device) (number place mark : ℕ) (stands : StandsAt old number place) → device.mark ≡ mark → condition_of old.condition ≡ running → IsNow (book_of old device) number
    → end_of old.history.known.calls number ≡ None → IsDurableAt (records_kept (book_of old device)) mark (book_of old device).placed place → (fault : AnswerFault) → fault ≡ answer_faults.NoMemory
    → AnswerStops (book_of old device) number fault
memory_stops old device number place mark stands at runs now unanswered durable fault is =
    let step = placed_in old.history.known.calls stands.0 in
    let there = mapped_parts (placed_in old.history.known.calls) old.placed.items place stands.0 stands.1 in
    let safe = subst (λ (n : ℕ). IsDurable (records_kept (book_of old device)) n there.ahead step) (sym at) (durable there.ahead there.behind step there.parts there.length_is) in
    subst (λ (f : AnswerFault). AnswerStops (book_of old device) number f) (sym is)
    (runs, (there.ahead, step, answerable old device number place now unanswered stands.0 stands.1 stands.2 there, safe))

pub far_from : (b : Bool) (P : Type 0) → b ≡ false → (P → IsTrue b) → ¬ P
far_from b P e told p = wrong b e (told p) where
  wrong : (b : Bool) → b ≡ false → IsTrue b → ⊥
  wrong true f h = absurd (cc)
  wrong false f h = absurd (cc)

-- ---- a reply that was spelled ahead

pub spelled_so : {E : Type 0} (r : Result Spelled E) (ledger : Ledger) (number place : ℕ) (p : PlacedCall) (call : RecordedCall) (reply : NfsReply) → slice_get ledger.placed.items place ≡ Some p
    → call_at ledger.history.known.calls number ≡ Some call → p.outcome ≡ outcomes.Received reply → IfOk r (λ s. s ≡ record { xid = call.xid; reply = reply }) → IfOk r (AnswersAt ledger number place)
spelled_so (Err e) ledger number place p call reply stands at received is = tt
spelled_so (Ok s) ledger number place p call reply stands at received is = subst (AnswersAt ledger number place) (sym is) (λ answer it. record {
  placed = p;
  stands = stands;
  call = call;
  recorded = at;
  reply = reply;
  received = received;
  spelled = it.message;
  is_reply = it.is_reply;
  is_result = it.is_result;
})

placed_with : (recorded : List RecordedCall) (xs : List PlacedCall) (place number : ℕ) (reply : NfsReply) (p : PlacedCall) → slice_get xs place ≡ Some p → p.number ≡ number → IsPlacedWith (map (placed_in recorded) xs) number reply
    → p.outcome ≡ outcomes.Received reply
placed_with recorded [] place number reply p at named all = absurd (cc)
placed_with recorded (x ∷ xs) zero number reply p at named all = sym (ap (λ (y : PlacedCall). y.outcome) (one at)) ∙ all.0 (ap (λ (y : PlacedCall). y.number) (one at) ∙ named) where
  one : Some x ≡ Some p → x ≡ p
  one f = cc
placed_with recorded (x ∷ xs) (suc place) number reply p at named all = placed_with recorded xs place number reply p at named all.1

-- where the call was placed with it, and it is spelled to the call
pub answers_at : (ledger : Ledger) (device : Device) (t : AreTied ledger device) (number place : ℕ) (stands : StandsAt ledger number place) (s : Spelled) → IsPlacedWith (book_of ledger device).placed number s.reply
    → IsOfCall ledger.history.known.calls number s.xid → AnswersAt ledger number place s
answers_at ledger device t number place stands s all of answer it =
    let call = its_call ledger device t number place stands in
    let same = sym (of call.0 call.1) in
    record {
      placed = stands.0;
      stands = stands.1;
      call = call.0;
      recorded = call.1;
      reply = s.reply;
      received = placed_with ledger.history.known.calls ledger.placed.items place number s.reply stands.0 stands.1 stands.2 all;
      spelled = it.message ∙ ap (λ (n : ℕ). reply_message n s.reply) same;
      is_reply = subst (λ (n : ℕ). IsReply answer (record { xid = n; body = success (result_text s.reply) })) same it.is_reply;
      is_result = it.is_result;
    }
