-- each step keeps the records of a book's changes
use Rattle.tree_starts.specs.Head.{Head}
use Rattle.tree_starts.specs.Start.{IsStart, object_made}
use Rattle.tree_starts.specs.declared.object.StartObject.{StartObject}
use Rattle.tree_starts.specs.declared.profile.Profile.{Profile}
use Rattle.std.proofs.Common.{◌≡◌, ℕ, zero, suc, ◌-◌, ◌<◌, ◌≤◌, ◌^◌, Bool, true, false, cond, List, [], ◌∷◌, ◌++◌, length, take, Some, refl, sym, ap, ◌∙◌, subst, arith, append-nil}
use Rattle.std.specs.Prelude.{filter, if◌then◌else◌}
use Rattle.std.proofs.lemmas.List.{append_assoc}
use Rattle.std.proofs.lemmas.Grind.{flat_map-append}
use Rattle.nfs3_types.specs.declared.calls.NfsCall.{NfsCall}
use Rattle.nfs3_types.specs.declared.replies.NfsReply.{NfsReply}
use Rattle.nfs3_types.specs.declared.replies.Outcome.TheVariants.{Received}
use Rattle.xdr_records.specs.Record.{record_limit}
use Rattle.history_file.specs.declared.event.Event.TheVariants as events
use Rattle.nfs_history.specs.declared.recorded.Meaning.TheVariants as meanings
use Rattle.nfs_history.specs.declared.recorded.RecordedCall.{RecordedCall}
use Rattle.nfs_history.specs.Precedence.{call_at}
use Rattle.replay_law.specs.Run.{kept_steps}
use Rattle.book_laws.specs.Placing.{Placed, is_recorded, records_in, front_with}
use Rattle.book_laws.specs.Book.{Book, object_in}
use Rattle.book_laws.specs.Steps.{HasMessage, IsRecordable, IsAnswerTo, journal_record, reply_message, step_of, with_record, Places, Steps, opening_book}
use Rattle.book_laws.specs.Steps.Steps.{begins, places, flushes, answers, closes, crashes, refuses}
use Rattle.book_laws.proofs.Invariant.{Over, IsInvariant}
use Rattle.book_laws.specs.Recorded.{changes_of, AreRecordsOf, HasItsChanges, ItsRecordsAreItsChanges}
use Rattle.book_laws.proofs.Walks.{from_opening}
use Rattle.book_laws.proofs.Continuing.{Continues, message_stays, AreSent, continues_event, sent_event, continues_same, sent_same, continues_begin, sent_begin, continues_answer, sent_answer}

-- ---- a record

-- all that is known of the record of a call
pub record IsKept (book : Book) (bytes : List ℕ) (step : Placed) : Type 0 where
  pub call : RecordedCall
  pub recorded : call_at book.history.known.calls step.number ≡ Some call
  pub message : List ℕ
  pub sent : HasMessage book call message
  pub recordable : IsRecordable message step.call
  pub reply : NfsReply
  pub received : step.outcome ≡ Received reply
  pub written : bytes ≡ journal_record step.number message (reply_message call.xid reply)
  pub numbered : object_in book step.number < 2 ^ 64
  pub answers : IsAnswerTo message (reply_message call.xid reply) reply
  pub within : length (reply_message call.xid reply) ≤ record_limit

abbrev pub AreKept : Book → List (List ℕ) → List Placed → Type 0
AreKept book [] [] = Unit {0}
AreKept book (bytes ∷ records) (step ∷ steps) = IsKept book bytes step × AreKept book records steps
AreKept book records steps = ⊥

is_kept_on : (old new : Book) (bytes : List ℕ) (step : Placed) → Continues old new → IsKept old bytes step → IsKept new bytes step
is_kept_on old new bytes step c k =
    let stays = c.calls step.number k.call k.recorded in
    record {
      call = stays.0;
      recorded = stays.1;
      message = k.message;
      sent = message_stays old new k.call stays.0 k.message c stays.2 k.sent;
      recordable = k.recordable;
      reply = k.reply;
      received = k.received;
      written = k.written ∙ ap (λ x. journal_record step.number k.message (reply_message x k.reply)) (sym stays.2.xid);
      numbered = subst (λ (head : Head). object_made (length head.start) step.number < 2 ^ 64) (sym c.head) k.numbered;
      answers = subst (λ (x : ℕ). IsAnswerTo k.message (reply_message x k.reply) k.reply) (sym stays.2.xid) k.answers;
      within = subst (λ (x : ℕ). length (reply_message x k.reply) ≤ record_limit) (sym stays.2.xid) k.within;
    }

kept_on : (old new : Book) (records : List (List ℕ)) (steps : List Placed) → Continues old new → AreKept old records steps → AreKept new records steps
kept_on old new [] [] c k = tt
kept_on old new [] (step ∷ steps) c k = absurd k
kept_on old new (bytes ∷ records) [] c k = absurd k
kept_on old new (bytes ∷ records) (step ∷ steps) c k = (is_kept_on old new bytes step c k.0, kept_on old new records steps c k.1)

kept_more : (book : Book) (records : List (List ℕ)) (steps : List Placed) (bytes : List ℕ) (step : Placed) → AreKept book records steps → IsKept book bytes step
    → AreKept book (records ++ bytes ∷ []) (steps ++ step ∷ [])
kept_more book [] [] bytes step k one = (one, tt)
kept_more book [] (s ∷ steps) bytes step k one = absurd k
kept_more book (r ∷ records) [] bytes step k one = absurd k
kept_more book (r ∷ records) (s ∷ steps) bytes step k one = (k.0, kept_more book records steps bytes step k.1 one)

kept_front : (book : Book) (n : ℕ) (records : List (List ℕ)) (steps : List Placed) → AreKept book records steps → AreKept book (take n records) (take n steps)
kept_front book zero records steps k = tt
kept_front book (suc n) [] [] k = tt
kept_front book (suc n) [] (step ∷ steps) k = absurd k
kept_front book (suc n) (bytes ∷ records) [] k = absurd k
kept_front book (suc n) (bytes ∷ records) (step ∷ steps) k = (k.0, kept_front book n records steps k.1)

records_so : (book : Book) (records : List (List ℕ)) (steps : List Placed) → AreKept book records steps → AreRecordsOf book records steps
records_so book [] [] k = tt
records_so book [] (step ∷ steps) k = absurd k
records_so book (bytes ∷ records) [] k = absurd k
records_so book (bytes ∷ records) (step ∷ steps) k = (
  record { call = k.0.call; recorded = k.0.recorded; message = k.0.message; sent = k.0.sent; reply = k.0.reply; received = k.0.received; written = k.0.written },
  records_so book records steps k.1,
)

-- ---- steps that are recorded

pub filter-append : (xs ys : List Placed) → filter is_recorded (xs ++ ys) ≡ filter is_recorded xs ++ filter is_recorded ys
filter-append [] ys = refl
filter-append (x ∷ xs) ys = go (is_recorded x) (filter-append xs ys) where
  go : (b : Bool) → filter is_recorded (xs ++ ys) ≡ filter is_recorded xs ++ filter is_recorded ys
      → cond b (x ∷ filter is_recorded (xs ++ ys)) (filter is_recorded (xs ++ ys)) ≡ cond b (x ∷ filter is_recorded xs) (filter is_recorded xs) ++ filter is_recorded ys
  go true rest = ap (λ zs. x ∷ zs) rest
  go false rest = rest

counted : (xs : List Placed) → length (filter is_recorded xs) ≡ records_in xs
counted [] = refl
counted (x ∷ xs) = go (is_recorded x) (counted xs) where
  go : (b : Bool) → length (filter is_recorded xs) ≡ records_in xs → length (cond b (x ∷ filter is_recorded xs) (filter is_recorded xs)) ≡ (if b then suc (records_in xs) else records_in xs)
  go true rest = ap suc rest
  go false rest = rest

front_filter : (steps : List Placed) (count : ℕ) → filter is_recorded (take (front_with count steps) steps) ≡ take count (filter is_recorded steps)
front_filter [] zero = refl
front_filter [] (suc count) = refl
front_filter (step ∷ steps) zero = refl
front_filter (step ∷ steps) (suc count) = go (is_recorded step) (front_filter steps count) (front_filter steps (suc count)) where
  front : Bool → List Placed
  front b = filter is_recorded (take (front_with (if b then count else suc count) steps) steps)

  go : (b : Bool) → filter is_recorded (take (front_with count steps) steps) ≡ take count (filter is_recorded steps)
      → filter is_recorded (take (front_with (suc count) steps) steps) ≡ take (suc count) (filter is_recorded steps)
      → cond b (step ∷ filter is_recorded (take (front_with (if b then count else suc count) steps) steps)) (filter is_recorded (take (front_with (if b then count else suc count) steps) steps))
      ≡ take (suc count) (cond b (step ∷ filter is_recorded steps) (filter is_recorded steps))
  go true fewer same = ap (λ zs. step ∷ zs) fewer
  go false fewer same = same

take_past : {X : Type 0} (xs ys : List X) (n : ℕ) → length xs ≤ n → take n (xs ++ ys) ≡ xs ++ take (n - length xs) ys
take_past [] ys n le = ap (λ m. take m ys) (omega arith)
take_past (x ∷ xs) ys zero le = absurd (none le) where
  none : suc (length xs) ≤ 0 → ⊥
  none f = omega (arith, f)
take_past (x ∷ xs) ys (suc n) le =
    ap (λ zs. x ∷ zs) (take_past xs ys n (less le)) ∙ ap (λ m. x ∷ xs ++ take m ys) (same n (length xs)) where
      less : suc (length xs) ≤ suc n → length xs ≤ n
      less f = omega (arith, f)

      same : (a b : ℕ) → a - b ≡ suc a - suc b
      same a b = omega arith

-- the steps that a crash keeps
pub kept_ended : (over : List Over) (placed : List Placed) (kept : ℕ) → kept_steps (over ++ record { steps = placed; kept = kept } ∷ []) ++ [] ≡ kept_steps over ++ take kept placed
kept_ended over placed kept =
    append-nil (kept_steps (over ++ record { steps = placed; kept = kept } ∷ []))
    ∙ flat_map-append (λ (x : Over). take x.kept x.steps) over (record { steps = placed; kept = kept } ∷ []) ∙ ap (λ xs. kept_steps over ++ xs) (append-nil (take kept placed))

changes_front : (over : List Over) (placed : List Placed) (keep : ℕ) → records_in (kept_steps over) ≤ keep
    → filter is_recorded (kept_steps (over ++ record { steps = placed; kept = front_with (keep - records_in (kept_steps over)) placed } ∷ []) ++ [])
    ≡ take keep (filter is_recorded (kept_steps over ++ placed))
changes_front over placed keep le =
    let kept = front_with (keep - records_in (kept_steps over)) placed in
    let ahead = filter is_recorded (kept_steps over) in
    ap (λ xs. filter is_recorded xs) (kept_ended over placed kept) ∙ filter-append (kept_steps over) (take kept placed)
    ∙ ap (λ xs. ahead ++ xs) (front_filter placed (keep - records_in (kept_steps over)) ∙ ap (λ m. take (keep - m) (filter is_recorded placed)) (sym (counted (kept_steps over))))
    ∙ sym (take_past ahead (filter is_recorded placed) keep (subst (λ (m : ℕ). m ≤ keep) (sym (counted (kept_steps over))) le)) ∙ ap (take keep) (sym (filter-append (kept_steps over) placed))

-- ---- the steps of a book

pub record KeepsRecords (book : Book) : Type 0 where
  pub sent : AreSent book
  pub kept : AreKept book book.device.records (changes_of book)

-- a step that leaves records and changes
left : (old new : Book) → Continues old new → (AreSent old → AreSent new) → new.device.records ≡ old.device.records → changes_of new ≡ changes_of old → KeepsRecords old → KeepsRecords new
left old new c sends records changes k = record {
  sent = sends k.sent;
  kept = subst (AreKept new new.device.records) (sym changes) (subst (λ rs. AreKept new rs (changes_of old)) (sym records) (kept_on old new old.device.records (changes_of old) c k.kept));
}

-- a crash, which keeps so many
ended : (old new : Book) (keep : ℕ) → Continues old new → (AreSent old → AreSent new) → new.device.records ≡ take keep old.device.records → changes_of new ≡ take keep (changes_of old)
    → KeepsRecords old → KeepsRecords new
ended old new keep c sends records changes k = record {
  sent = sends k.sent;
  kept = subst (AreKept new new.device.records) (sym changes)
      (subst (λ rs. AreKept new rs (take keep (changes_of old))) (sym records)
      (kept_on old new (take keep old.device.records) (take keep (changes_of old)) c (kept_front old keep old.device.records (changes_of old) k.kept)));
}

-- a call is placed
module _ (book : Book) (number : ℕ) (reply : NfsReply) (new : Book) (p : Places book number reply new) (k : KeepsRecords book) (made : List ℕ) where
  abbrev this : Placed
  this = step_of number p.call reply

  abbrev bytes : List ℕ
  bytes = journal_record number p.message (reply_message p.recorded.xid reply)

  abbrev after : Book
  after = record book { placed = book.placed ++ step_of number p.call reply ∷ []; made = made; device = with_record (is_recorded (step_of number p.call reply)) (journal_record number p.message (reply_message p.recorded.xid reply)) book.device }

  known : IsKept book (journal_record number p.message (reply_message p.recorded.xid reply)) (step_of number p.call reply)
  known =
      let s = k.sent number p.recorded p.of_now.recorded in
      let same_message : s.message ≡ p.message = call_message (sym s.sent ∙ p.sent) in
      let same_call : s.asked ≡ p.call = judged_call (sym s.judged ∙ p.judged) in
      record {
        call = p.recorded;
        recorded = p.of_now.recorded;
        message = p.message;
        sent = p.sent;
        recordable = subst (λ (m : List ℕ). IsRecordable m p.call) same_message (subst (IsRecordable s.message) same_call s.recordable);
        reply = reply;
        received = refl;
        written = refl;
        numbered = p.numbered;
        answers = p.answers;
        within = p.within;
      } where
        call_message : {l : ℕ} {m m' : List ℕ} → Some (events.Call l m) ≡ Some (events.Call l m') → m ≡ m'
        call_message e = cc

        judged_call : {c d : NfsCall} → meanings.Judged c ≡ meanings.Judged d → c ≡ d
        judged_call e = cc

  changes_more : changes_of after ≡ changes_of book ++ filter is_recorded (step_of number p.call reply ∷ [])
  changes_more = ap (λ xs. filter is_recorded xs) (sym (append_assoc (kept_steps book.over) book.placed (this ∷ []))) ∙ filter-append (kept_steps book.over ++ book.placed) (this ∷ [])

  more : (b : Bool) → AreKept book (with_record b bytes book.device).records (changes_of book ++ cond b (this ∷ []) [])
  more true = kept_more book book.device.records (changes_of book) bytes this k.kept known
  more false = subst (AreKept book book.device.records) (sym (append-nil (changes_of book))) k.kept

  placed_so : KeepsRecords after
  placed_so = record {
    sent = sent_same book after refl refl refl k.sent;
    kept = subst (AreKept after after.device.records) (sym changes_more)
        (kept_on book after after.device.records (changes_of book ++ filter is_recorded (this ∷ [])) (continues_same book after refl refl refl) (more (is_recorded this)));
  }

pub records_on : (book new : Book) → IsInvariant book → KeepsRecords book → Steps book new → KeepsRecords new
records_on book new i k (begins lane message b) =
    subst KeepsRecords (sym b.done) (left book _ (continues_begin book lane message b.call b.recordable) (sent_begin book lane message b.call b.recordable) refl refl k)
records_on book new i k (places number reply p) = subst KeepsRecords (sym p.done) (placed_so book number reply new p k _)
records_on book new i k (flushes f) = subst KeepsRecords (sym f.done) (left book _ (continues_same book _ refl refl refl) (sent_same book _ refl refl refl) refl refl k)
records_on book new i k (answers number a) =
    subst KeepsRecords (sym a.done)
    (left book _ (continues_answer book number a.recorded.lane a.answer a.step.outcome) (sent_answer book number a.recorded.lane a.answer a.step.outcome) refl refl k)
records_on book new i k (closes lane c) =
    subst KeepsRecords (sym c.done) (left book _ (continues_event book _ (events.Close lane) refl refl refl) (sent_event book _ (events.Close lane) refl refl refl) refl refl k)
records_on book new i k (crashes keep c) =
    subst KeepsRecords (sym c.done)
    (ended book _ keep (continues_event book _ events.Crash refl refl refl) (sent_event book _ events.Crash refl refl refl) refl (changes_front book.over book.placed keep (further i.mark.0 c.least)) k) where
      further : {x y z : ℕ} → x ≤ y → y ≤ z → x ≤ z
      further f g = omega (arith, f, g)
records_on book new i k (refuses r) = subst KeepsRecords (sym r.done) (left book _ (continues_same book _ refl refl refl) (sent_same book _ refl refl refl) refl refl k)

pub keeps_at_first : (profile : Profile) (start : List StartObject) (faults : ℕ) → IsStart start → KeepsRecords (opening_book profile start faults)
keeps_at_first profile start faults is = record { sent = λ n call at. absurd (none n at); kept = tt } where
  none : (n : ℕ) {call : RecordedCall} → call_at [] n ≡ Some call → ⊥
  none zero e = cc
  none (suc n) e = cc

pub its_changes : ItsRecordsAreItsChanges
its_changes = from_opening KeepsRecords HasItsChanges records_on (λ book i k. records_so book book.device.records (changes_of book) k.kept) keeps_at_first
