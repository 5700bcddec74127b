-- histories that go on: what was known of a call, and each event, stays
use Rattle.std.proofs.Common.{◌≡◌, ◌≢◌, ◌⊎◌, inl, inr, ℕ, zero, suc, ◌+◌, ◌-◌, true, false, List, [], ◌∷◌, ◌++◌, length, Option, Some, None, refl, sym, ap, ◌∙◌, subst, arith}
use Rattle.std.specs.Prelude.{◌==◌}
use Rattle.std.specs.List.{slice_get}
use Rattle.std.proofs.lemmas.Bool.{eqb-true, eq-eqb}
use Rattle.nfs3_types.specs.declared.calls.NfsCall.{NfsCall}
use Rattle.nfs3_types.specs.declared.replies.Outcome.{Outcome}
use Rattle.history_file.specs.declared.event.Event.{Event}
use Rattle.history_file.specs.declared.event.Event.TheVariants as events
use Rattle.nfs_history.specs.declared.recorded.Meaning.TheVariants as meanings
use Rattle.nfs_history.specs.declared.recorded.RecordedCall.{RecordedCall}
use Rattle.nfs_history.specs.Precedence.{call_at}
use Rattle.tree_nodes.proofs.Chains.{decide, differ}
use Rattle.book_laws.specs.Book.{Book}
use Rattle.book_laws.specs.Steps.{begun, with_call, answered_now, change_at, with_reply, HasMessage, IsRecordable}
use Rattle.book_laws.proofs.Moving.{call_stays, call_was, changed_call, other_call}

-- ---- lists that grow

pub get_stays : {X : Type 0} (xs ys : List X) (k : ℕ) (x : X) → slice_get xs k ≡ Some x → slice_get (xs ++ ys) k ≡ Some x
get_stays [] ys k x e = absurd (cc)
get_stays (y ∷ xs) ys zero x e = e
get_stays (y ∷ xs) ys (suc k) x e = get_stays xs ys k x e

get_last : {X : Type 0} (xs : List X) (x : X) → slice_get (xs ++ x ∷ []) (length xs) ≡ Some x
get_last [] x = refl
get_last (y ∷ xs) x = get_last xs x

same_some : {X : Type 0} {x y : X} → Some x ≡ Some y → x ≡ y
same_some e = cc

-- ---- what stays of a call

pub record IsSame (one other : RecordedCall) : Type 0 where
  pub lane : other.lane ≡ one.lane
  pub xid : other.xid ≡ one.xid
  pub begin : other.begin ≡ one.begin
  pub meaning : other.meaning ≡ one.meaning

-- a history goes on
pub record Continues (old new : Book) : Type 0 where
  pub head : new.history.known.head ≡ old.history.known.head
  pub calls : (n : ℕ) (call : RecordedCall) → call_at old.history.known.calls n ≡ Some call
      → (other : RecordedCall) × (call_at new.history.known.calls n ≡ Some other) × IsSame call other
  pub events : (k : ℕ) (event : Event) → slice_get old.history.events k ≡ Some event → slice_get new.history.events k ≡ Some event

pub message_stays : (old new : Book) (call other : RecordedCall) (message : List ℕ) → Continues old new → IsSame call other → HasMessage old call message → HasMessage new other message
message_stays old new call other message c same sent =
    ap (λ b. slice_get new.history.events (b - 1)) same.begin ∙ c.events (call.begin - 1) (events.Call call.lane message) sent ∙ ap (λ l. Some (events.Call l message)) (sym same.lane)

-- the message with which a call began, and what it asked
pub record IsSent (book : Book) (call : RecordedCall) : Type 0 where
  pub message : List ℕ
  pub asked : NfsCall
  pub sent : HasMessage book call message
  pub judged : call.meaning ≡ meanings.Judged asked
  pub recordable : IsRecordable message asked

abbrev pub AreSent : Book → Type 0
AreSent book = (n : ℕ) (call : RecordedCall) → call_at book.history.known.calls n ≡ Some call → IsSent book call

pub sent_stays : (old new : Book) (call other : RecordedCall) → Continues old new → IsSame call other → IsSent old call → IsSent new other
sent_stays old new call other c same s = record {
  message = s.message;
  asked = s.asked;
  sent = message_stays old new call other s.message c same s.sent;
  judged = same.meaning ∙ s.judged;
  recordable = s.recordable;
}

same_itself : (call : RecordedCall) → IsSame call call
same_itself call = record { lane = refl; xid = refl; begin = refl; meaning = refl }

-- ---- the steps

-- an event more, of no call
module _ (book new : Book) (event : Event) (calls : new.history.known.calls ≡ book.history.known.calls) (more : new.history.events ≡ book.history.events ++ event ∷ []) (head : new.history.known.head ≡ book.history.known.head) where
  pub continues_event : Continues book new
  continues_event = record {
    head = head;
    calls = λ n call at. (call, ap (λ cs. call_at cs n) calls ∙ at, same_itself call);
    events = λ k e at. ap (λ es. slice_get es k) more ∙ get_stays book.history.events (event ∷ []) k e at;
  }

  pub sent_event : AreSent book → AreSent new
  sent_event sent n call at = sent_stays book new call call continues_event (same_itself call) (sent n call (ap (λ cs. call_at cs n) (sym calls) ∙ at))

-- the same history
module _ (book new : Book) (calls : new.history.known.calls ≡ book.history.known.calls) (same : new.history.events ≡ book.history.events) (head : new.history.known.head ≡ book.history.known.head) where
  pub continues_same : Continues book new
  continues_same = record {
    head = head;
    calls = λ n call at. (call, ap (λ cs. call_at cs n) calls ∙ at, same_itself call);
    events = λ k e at. ap (λ es. slice_get es k) same ∙ at;
  }

  pub sent_same : AreSent book → AreSent new
  sent_same sent n call at = sent_stays book new call call continues_same (same_itself call) (sent n call (ap (λ cs. call_at cs n) (sym calls) ∙ at))

-- a call begins
module _ (book : Book) (lane : ℕ) (message : List ℕ) (asked : NfsCall) (recordable : IsRecordable message asked) where
  abbrev begins_so : Book
  begins_so = record book { history = with_call book.history lane message asked }

  pub continues_begin : Continues book begins_so
  continues_begin = record {
    head = refl;
    calls = λ n call at. (call, call_stays book.history.known.calls (begun book.history lane message asked) n call at, same_itself call);
    events = λ k e at. get_stays book.history.events (events.Call lane message ∷ []) k e at;
  }

  pub sent_begin : AreSent book → AreSent begins_so
  sent_begin sent n call at = go (call_was book.history.known.calls (begun book.history lane message asked) n call at) where
    last : length book.history.events + 1 - 1 ≡ length book.history.events
    last = omega arith

    first : IsSent begins_so (begun book.history lane message asked)
    first = record {
      message = message;
      asked = asked;
      sent = ap (slice_get (book.history.events ++ events.Call lane message ∷ [])) last ∙ get_last book.history.events (events.Call lane message);
      judged = refl;
      recordable = recordable;
    }

    go : (call_at book.history.known.calls n ≡ Some call) ⊎ (call ≡ begun book.history lane message asked) → IsSent begins_so call
    go (inl was) = sent_stays book begins_so call call continues_begin (same_itself call) (sent n call was)
    go (inr is) = subst (IsSent begins_so) (sym is) first

-- a call of a list in which one was changed was there
gone : (told : RecordedCall → RecordedCall) (call : RecordedCall) (calls : List RecordedCall) (m n : ℕ) → call_at (change_at told m calls) n ≡ Some call → call_at calls n ≡ None → ⊥
gone told call calls m zero at is = absurd (cc)
gone told call [] m (suc n) at is = absurd (cc)
gone told call (c ∷ calls) zero (suc zero) at is = absurd (cc)
gone told call (c ∷ calls) (suc m) (suc zero) at is = absurd (cc)
gone told call (c ∷ calls) zero (suc (suc n)) at is = absurd (differ_so at is) where
  differ_so : {o : Option RecordedCall} → o ≡ Some call → o ≡ None → ⊥
  differ_so e f = cc
gone told call (c ∷ calls) (suc m) (suc (suc n)) at is = gone told call calls m (suc n) at is

-- a call is answered
module _ (book : Book) (place lane : ℕ) (message : List ℕ) (outcome : Outcome) where
  abbrev answers_so : Book
  answers_so = record book { history = with_reply book.history place lane message outcome }

  abbrev told : RecordedCall → RecordedCall
  told = answered_now book.history outcome

  nat_decide : (n m : ℕ) → (n ≡ m) ⊎ (n ≢ m)
  nat_decide n m = go (decide (n == m)) where
    go : ((n == m) ≡ true) ⊎ ((n == m) ≡ false) → (n ≡ m) ⊎ (n ≢ m)
    go (inl e) = inl (eqb-true n m e)
    go (inr e) = inr (λ same. differ (n == m) (eq-eqb n m same) e)

  at_place : (n : ℕ) (call : RecordedCall) → call_at book.history.known.calls n ≡ Some call → (n ≡ suc (place - 1)) ⊎ (n ≢ suc (place - 1))
      → (other : RecordedCall) × (call_at (change_at told (place - 1) book.history.known.calls) n ≡ Some other) × IsSame call other
  at_place n call at (inl is) = (
    told call,
    ap (call_at (change_at told (place - 1) book.history.known.calls)) is ∙ changed_call told book.history.known.calls (place - 1) call (ap (call_at book.history.known.calls) (sym is) ∙ at),
    record { lane = refl; xid = refl; begin = refl; meaning = refl },
  )
  at_place n call at (inr isnt) = (call, other_call told book.history.known.calls (place - 1) n isnt ∙ at, same_itself call)

  pub continues_answer : Continues book answers_so
  continues_answer = record {
    head = refl;
    calls = λ n call at. at_place n call at (nat_decide n (suc (place - 1)));
    events = λ k e at. get_stays book.history.events (events.Reply lane message ∷ []) k e at;
  }

  pub sent_answer : AreSent book → AreSent answers_so
  sent_answer sent n call at = go (call_at book.history.known.calls n) refl where
    some : (was : RecordedCall) → call_at book.history.known.calls n ≡ Some was → IsSent answers_so call
    some was is =
        let stays = continues_answer.calls n was is in
        sent_stays book answers_so was call continues_answer (subst (IsSame was) (same_some (sym stays.1 ∙ at)) stays.2) (sent n was is)

    go : (o : Option RecordedCall) → call_at book.history.known.calls n ≡ o → IsSent answers_so call
    go None is = absurd (gone told call book.history.known.calls (place - 1) n at is)
    go (Some was) is = some was is
