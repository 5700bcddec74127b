-- each step keeps what holds of every book
use Rattle.std.proofs.Common.{◌≡◌, ◌≢◌, ◌⊎◌, inl, inr, ℕ, zero, suc, ◌+◌, ◌-◌, ◌<◌, ◌≤◌, ◌^◌, Bool, true, false, List, [], ◌∷◌, ◌++◌, length, take, Option, Some, None, refl, sym, ap, ◌∙◌, subst, arith, append-nil, min}
use Rattle.std.specs.Prelude.{IsSome, IfSome, is_some, if◌then◌else◌, option_and_then, option_map, unwrap_or, ◌==◌}
use Rattle.std.specs.List.{AllByRecursion}
use Rattle.std.proofs.lemmas.List.{length-append, length-take}
use Rattle.std.proofs.lemmas.Grind.{flat_map-append}
use Rattle.nfs3_types.specs.declared.calls.NfsCall.{NfsCall}
use Rattle.nfs3_types.specs.declared.replies.NfsReply.{NfsReply}
use Rattle.nfs3_types.specs.declared.replies.Outcome.TheVariants as outcomes
use Rattle.nfs_history.specs.declared.recorded.RecordedCall.{RecordedCall}
use Rattle.nfs_history.specs.Precedence.{call_at, begin_of, end_of}
use Rattle.tree_starts.specs.Head.{Head}
use Rattle.tree_nodes.specs.Tree.{entry_of}
use Rattle.tree_nodes.proofs.Chains.{decide, differ}
use Rattle.std.proofs.lemmas.Bool.{eqb-true}
use Rattle.std.proofs.Common.{eq-eqb}
use Rattle.file_tree.proofs.Profiles.{comes_out_plain}
use Rattle.replay_law.specs.Run.{state_after, kept_steps}
use Rattle.book_laws.specs.Placing.{Placed, is_recorded, records_in, front_with}
use Rattle.book_laws.specs.Book.{Book, setting, setting_made, bindings_made, object_in, next_by, tree_at_first, records_kept}
use Rattle.nfs3_types.specs.declared.replies.Outcome.{Outcome}
use Rattle.book_laws.specs.Steps.{begun, with_reply, with_call, answered_now, change_at, with_close, with_made, with_object, with_record, journal_record, reply_message, step_of, IsDurable, Places, Answers, Crashes, Refuses, Steps}
use Rattle.book_laws.specs.Steps.Steps.{begins, places, flushes, answers, closes, crashes, refuses}
use Rattle.book_laws.proofs.Invariant.{Over, IsKnown, AreKnown, AllKnown, IsPaired, AreDistinct, EachDistinct, IsPlacedIn, IsPlaced, AreInOrder, AllRun, IsMade, AreDurable, IsCutSafely, IsInvariant}
use Rattle.book_laws.proofs.Lists.{all_append, all_ahead, all_behind, all_each}
use Rattle.cut_check.specs.Verifier.{verifier_of}
use Rattle.nfs_history.specs.declared.recorded.Meaning.{Meaning}
use Rattle.nfs_history.specs.Calls.{calls_of}
use Rattle.nfs_history.specs.History.{IsJudged, IsKnownAs}
use Rattle.nfs_history.specs.Outside.{outside}
use Rattle.history_file.specs.Owning.{all_happened}
use Rattle.std.specs.List.{slice_get}
use Rattle.book_laws.specs.Steps.{IsOpen}
use Rattle.book_laws.proofs.Growing.{IsGenuine, event_of, genuine_call, genuine_reply, genuine_close, genuine_crash}
use Rattle.book_laws.proofs.Legal.{taking}
use Rattle.book_laws.proofs.Newcomer.{not_placed, apart_eras, others, isnt_zero}
use Rattle.book_laws.proofs.Starting.{call_alone}
use Rattle.book_laws.proofs.Stable.{records_append}
use Rattle.book_laws.proofs.Moving.{call_stays, call_was, changed_call, other_call, all_changed, call_has, AreSame, AllSame, are_known_same, all_known_same, order_same, all_order_same, placed_more, placed_last, is_placed_by, is_placed_now, is_placed_over, distinct_more, each_distinct_by, each_distinct_over, known_over, order_over, order_more, LastParts, last_parts, same_parts, all_with_object, records_front, durable_same, cuts_same}
use Rattle.book_laws.proofs.Moving.LastParts.{is_last, is_inside}
use Rattle.book_laws.proofs.Bound.{AllApart, kept_apart, run_same, all_run_same, all_run_more, all_run_over}

le_more : {a b : ℕ} → a ≤ b → a ≤ b + 1
le_more le = omega (arith, le)

nat_decide : (n m : ℕ) → (n ≡ m) ⊎ (n ≢ m)
nat_decide n m = go (decide (n == m)) where
  go : ((n == m) ≡ true) ⊎ ((n == m) ≡ false) → (n ≡ m) ⊎ (n ≢ m)
  go (inl e) = inl (eqb-true n m e)
  go (inr e) = inr (λ same. differ (n == m) (eq-eqb n m same) e)

none_some : {X : Type 0} {o : Option X} → o ≡ None → IsSome o → ⊥
none_some e s = cc

-- ---- a call begins

module _ (book : Book) (i : IsInvariant book) (lane : ℕ) (message : List ℕ) (call : NfsCall) (genuine : IsGenuine (with_call book.history lane message call)) where
  abbrev calls : List RecordedCall
  calls = book.history.known.calls

  abbrev more : RecordedCall
  more = begun book.history lane message call

  abbrev begun_calls : List RecordedCall
  begun_calls = calls ++ more ∷ []

  same_call : (e : ℕ) (step : Placed) → IsKnown calls e step → call_at begun_calls step.number ≡ call_at calls step.number
  same_call e step k = call_stays calls more step.number k.call k.recorded ∙ sym k.recorded

  same_calls : (e : ℕ) (steps : List Placed) → AreKnown calls e steps → AreSame calls begun_calls steps
  same_calls e [] k = tt
  same_calls e (step ∷ steps) k = (same_call e step k.0, same_calls e steps k.1)

  all_same : (e : ℕ) (over : List Over) (placed : List Placed) → AllKnown calls e over placed → AllSame calls begun_calls over
  all_same e [] placed k = tt
  all_same e (first ∷ over) placed k = (same_calls e first.steps k.0, all_same (e + 1) over placed k.1)

  same_now : (e : ℕ) (over : List Over) (placed : List Placed) → AllKnown calls e over placed → AreSame calls begun_calls placed
  same_now e [] placed k = same_calls e placed k
  same_now e (first ∷ over) placed k = same_now (e + 1) over placed k.1

  pub after_begin : IsInvariant (record book { history = with_call book.history lane message call })
  after_begin = record {
    genuine = genuine;
    root = i.root;
    start = i.start;
    eras = i.eras;
    known = all_known_same calls begun_calls 1 book.over book.placed book.placed (all_same 1 book.over book.placed i.known)
        (λ k. are_known_same calls begun_calls (1 + length book.over) book.placed (same_now 1 book.over book.placed i.known) k) i.known;
    distinct = i.distinct;
    complete = complete;
    paired = all_append IsPaired calls (more ∷ []) i.paired (inl (refl, refl), tt);
    begun = all_append _ calls (more ∷ []) (all_each _ _ calls (λ c le. subst (λ (n : ℕ). c.begin ≤ n) (sym longer) (le_more le)) i.begun) (le_refl longer, tt);
    ordered = all_order_same calls begun_calls book.over book.placed book.placed (all_same 1 book.over book.placed i.known)
        (order_same calls begun_calls book.placed (same_now 1 book.over book.placed i.known)) i.ordered;
    runs = i.runs;
    made = i.made;
    cuts = cuts_same calls begun_calls book.over (all_same 1 book.over book.placed i.known) i.cuts;
    durable = durable_same calls begun_calls (records_kept book) book.device.mark book.placed (same_now 1 book.over book.placed i.known) i.durable;
    records = i.records;
    mark = i.mark;
  } where
    longer : length (with_call book.history lane message call).events ≡ length book.history.events + 1
    longer = length-append book.history.events _

    le_refl : {n : ℕ} → n ≡ length book.history.events + 1 → length book.history.events + 1 ≤ n
    le_refl e = omega (arith, e)

    complete : (n : ℕ) (c : RecordedCall) → call_at begun_calls n ≡ Some c → IsSome c.outcome → IsPlaced book.over book.placed n
    complete n c at came = go (call_was calls more n c at) where
      go : (call_at calls n ≡ Some c) ⊎ (c ≡ more) → IsPlaced book.over book.placed n
      go (inl was) = i.complete n c was came
      go (inr is) = absurd (none_some (ap (λ (x : RecordedCall). x.outcome) is) came)

-- ---- a call is placed

-- what a legal this takes, where it is recorded
module _ (book : Book) (i : IsInvariant book) (number : ℕ) (reply : NfsReply) (new : Book) (p : Places book number reply new) where
  abbrev old_calls : List RecordedCall
  old_calls = book.history.known.calls

  abbrev this : Placed
  this = step_of number p.call reply

  abbrev head : Head
  head = book.history.known.head

  -- the object of its number
  abbrev own : ℕ
  own = object_in book number

  abbrev made' : List ℕ
  made' = with_made own p.after book.made

  abbrev newcomer : AllByRecursion (λ other. (other ≢ own) × (other < 2 ^ 64)) book.made
  newcomer = others book i number reply new p

  all_apart : AllApart number book.over
  all_apart = apart_eras book i number reply new p

  -- it has no reply as yet
  quiet : (p.recorded.«end» ≡ None) × (p.recorded.outcome ≡ None)
  quiet = go (call_has IsPaired old_calls number p.recorded i.paired p.of_now.recorded) where
    go : IsPaired p.recorded → (p.recorded.«end» ≡ None) × (p.recorded.outcome ≡ None)
    go (inl silent) = silent
    go (inr told) = absurd (not_placed book i number reply new p (i.complete number p.recorded p.of_now.recorded told.1))

  unended : end_of old_calls number ≡ None
  unended = ap (option_and_then (λ (c : RecordedCall). c.«end»)) p.of_now.recorded ∙ quiet.0

  known_step : IsKnown old_calls (1 + length book.over) this
  known_step = record {
    call = p.recorded;
    recorded = p.of_now.recorded;
    now = p.of_now.era ∙ at;
    judged = p.judged;
    reply = reply;
    received = refl;
    replied = inl quiet;
    takes = λ recorded. taking (bindings_made made') p.before p.after own p.call reply (comes_out_plain head.profile (bindings_made made') p.before p.after own p.call (outcomes.Received reply) p.next) recorded;
    verifier = shown (verifier_of p.call (outcomes.Received reply)) p.verifier;
  } where
    at : book.history.known.eras ≡ 1 + length book.over
    at = omega (arith, i.eras)

    shown : (o : Option ℕ) → IfSome o (λ verifier. verifier ≡ book.history.known.eras) → IfSome o (λ verifier. verifier ≡ 1 + length book.over)
    shown None h = tt
    shown (Some v) h = h ∙ at

  -- with what the call makes, all runs as before, and so does the call
  runs_on : (b : Bool) → is_some (entry_of p.after own) ≡ b → AllRun (setting_made head (if b then with_object own book.made else book.made)) (tree_at_first book) book.over book.placed
      × (state_after (next_by (setting_made head (if b then with_object own book.made else book.made))) (tree_at_first book) (kept_steps book.over ++ book.placed) ≡ Some p.before)
  runs_on false is = (i.runs, p.stood)
  runs_on true is = (
    all_run_same head number book.made p.numbered newcomer book.over book.placed all_apart p.unplaced (tree_at_first book) (call_alone head.start i.start number (isnt_zero book i number reply new p)) i.runs,
    sym (run_same head number book.made p.numbered newcomer (kept_steps book.over ++ book.placed) (all_append _ (kept_steps book.over) book.placed (kept_apart number book.over all_apart) p.unplaced) (tree_at_first book)
        (call_alone head.start i.start number (isnt_zero book i number reply new p))) ∙ p.stood,
  )

  made_all : (b : Bool) → AllByRecursion (λ object. IsMade (length head.start) book.over (book.placed ++ this ∷ []) object × (object < 2 ^ 64)) (if b then with_object own book.made else book.made)
  made_all b = go b old where
    old : AllByRecursion (λ object. IsMade (length head.start) book.over (book.placed ++ this ∷ []) object × (object < 2 ^ 64)) book.made
    old = all_each _ _ book.made (λ object has. (still object has.0, has.1)) i.made where
      still : (object : ℕ) → IsMade (length head.start) book.over book.placed object → IsMade (length head.start) book.over (book.placed ++ this ∷ []) object
      still object (inl stood) = inl stood
      still object (inr call) = inr (call.0, is_placed_by book.over book.placed (book.placed ++ this ∷ []) call.0 (placed_more book.placed this call.0) call.1, call.2)

    go : (b : Bool) → AllByRecursion (λ object. IsMade (length head.start) book.over (book.placed ++ this ∷ []) object × (object < 2 ^ 64)) book.made
        → AllByRecursion (λ object. IsMade (length head.start) book.over (book.placed ++ this ∷ []) object × (object < 2 ^ 64)) (if b then with_object own book.made else book.made)
    go true a = all_with_object _ own book.made (inr (number, is_placed_now book.over (book.placed ++ this ∷ []) number (placed_last book.placed this), refl), p.numbered) a
    go false a = a

  durable_more : AreDurable old_calls (records_kept book) book.device.mark (book.placed ++ this ∷ [])
  durable_more ahead s behind parts ended = go (last_parts book.placed this ahead s behind parts) where
    go : LastParts book.placed this ahead s behind → IsDurable (records_kept book) book.device.mark ahead s
    go (is_last same) = absurd (none_some (ap (λ (t : Placed). end_of old_calls t.number) same ∙ unended) ended)
    go (is_inside rest inside) = i.durable ahead s rest inside ended

  records_more : (b : Bool) → is_recorded this ≡ b → (bytes : List ℕ) → length (with_record b bytes book.device).records ≡ records_kept book + records_in (book.placed ++ this ∷ [])
  records_more true is bytes =
      let longer = length-append book.device.records (bytes ∷ []) in
      let more : records_in (book.placed ++ this ∷ []) ≡ records_in book.placed + 1 = records_append book.placed (this ∷ []) ∙ ap (λ c. records_in book.placed + (if c then 1 else 0)) is in
      longer ∙ omega (arith, i.records, more)
  records_more false is bytes =
      let more : records_in (book.placed ++ this ∷ []) ≡ records_in book.placed + 0 = records_append book.placed (this ∷ []) ∙ ap (λ c. records_in book.placed + (if c then 1 else 0)) is in
      omega (arith, i.records, more)

  mark_same : (b : Bool) (bytes : List ℕ) → ((with_record b bytes book.device).mark ≡ book.device.mark) × (length book.device.records ≤ length (with_record b bytes book.device).records)
  mark_same true bytes = (refl, longer (length book.device.records) _ (length-append book.device.records (bytes ∷ []))) where
    longer : (a b : ℕ) → b ≡ a + 1 → a ≤ b
    longer a b f = omega (arith, f)
  mark_same false bytes = (refl, omega arith)

  pub after_place : IsInvariant new
  after_place = subst IsInvariant (sym p.done) (record {
    genuine = i.genuine;
    root = i.root;
    start = i.start;
    eras = i.eras;
    known = all_known_same old_calls old_calls 1 book.over book.placed (book.placed ++ this ∷ []) (all_refl book.over) (λ k. all_append _ book.placed (this ∷ []) k (known_step, tt)) i.known;
    distinct = each_distinct_by book.over book.placed (book.placed ++ this ∷ []) (λ d. distinct_more book.placed this d p.unplaced) i.distinct;
    complete = λ n c at came. is_placed_by book.over book.placed (book.placed ++ this ∷ []) n (placed_more book.placed this n) (i.complete n c at came);
    paired = i.paired;
    begun = i.begun;
    ordered = all_order_same old_calls old_calls book.over book.placed (book.placed ++ this ∷ []) (all_refl book.over) (order_more old_calls book.placed this unended) i.ordered;
    runs = all_run_more (setting_made head made') p.before p.after this p.next book.over book.placed (tree_at_first book) (runs_on (is_some (entry_of p.after own)) refl).1 (runs_on (is_some (entry_of p.after own)) refl).0;
    made = made_all (is_some (entry_of p.after own));
    cuts = i.cuts;
    durable = subst (λ (m : ℕ). AreDurable old_calls (records_kept book) m (book.placed ++ this ∷ [])) (sym (mark_same (is_recorded this) bytes).0) durable_more;
    records = records_more (is_recorded this) refl bytes;
    mark = (further i.mark.0 (mark_same (is_recorded this) bytes).0, behind i.mark.1 (mark_same (is_recorded this) bytes));
  }) where
    bytes : List ℕ
    bytes = journal_record number p.message (reply_message p.recorded.xid reply)

    are_refl : (steps : List Placed) → AreSame old_calls old_calls steps
    are_refl [] = tt
    are_refl (s ∷ steps) = (refl, are_refl steps)

    all_refl : (over : List Over) → AllSame old_calls old_calls over
    all_refl [] = tt
    all_refl (first ∷ over) = (are_refl first.steps, all_refl over)

    further : {k m m' : ℕ} → k ≤ m → m' ≡ m → k ≤ m'
    further f g = omega (arith, f, g)

    behind : {m m' n n' : ℕ} → m ≤ n → (m' ≡ m) × (n ≤ n') → m' ≤ n'
    behind f g = omega (arith, f, g.0, g.1)

-- ---- what is durable goes out

module _ (book : Book) (i : IsInvariant book) (number : ℕ) (new : Book) (a : Answers book number new) where
  abbrev said_calls : List RecordedCall
  said_calls = book.history.known.calls

  abbrev told : RecordedCall → RecordedCall
  told = answered_now book.history a.step.outcome

  abbrev told_calls : List RecordedCall
  told_calls = change_at told (number - 1) said_calls

  -- a call's number is from 1 on
  positive : (n : ℕ) (c : RecordedCall) → call_at said_calls n ≡ Some c → suc (n - 1) ≡ n
  positive zero c e = absurd (cc)
  positive (suc n) c e = omega arith

  number_is : suc (number - 1) ≡ number
  number_is = positive number a.recorded a.of_now.recorded

  here : slice_get said_calls (number - 1) ≡ Some a.recorded
  here = ap (call_at said_calls) number_is ∙ a.of_now.recorded

  unchanged : (n : ℕ) → n ≢ number → call_at told_calls n ≡ call_at said_calls n
  unchanged n apart = other_call told said_calls (number - 1) n (λ same. apart (same ∙ number_is))

  changed : call_at told_calls number ≡ Some (told a.recorded)
  changed = subst (λ (n : ℕ). call_at told_calls n ≡ Some (told a.recorded)) number_is
      (changed_call told said_calls (number - 1) a.recorded (ap (call_at said_calls) number_is ∙ a.of_now.recorded))

  one : {x y : RecordedCall} → Some x ≡ Some y → x ≡ y
  one f = cc

  same_by : (steps : List Placed) → AllByRecursion (λ s. s.number ≢ number) steps → AreSame said_calls told_calls steps
  same_by [] apart = tt
  same_by (s ∷ steps) apart = (unchanged s.number apart.0, same_by steps apart.1)

  -- no era that is over has the call
  same_over : (e : ℕ) (over : List Over) (placed : List Placed) → AllKnown said_calls e over placed → e + length over ≡ book.history.known.eras → AllSame said_calls told_calls over
  same_over e [] placed known now = tt
  same_over e (first ∷ over) placed known now = (steps first.steps known.0, same_over (e + 1) over placed known.1 (further e (length over) book.history.known.eras now)) where
    further : (x y z : ℕ) → x + suc y ≡ z → x + 1 + y ≡ z
    further x y z f = omega (arith, f)

    clash : (x y z w : ℕ) → x + suc y ≡ z → w ≡ z → w ≡ x → ⊥
    clash x y z w f g h = omega (arith, f, g, h)

    other : (s : Placed) → IsKnown said_calls e s → s.number ≢ number
    other s k same = clash e (length over) book.history.known.eras a.recorded.era now a.of_now.era (ap (λ (c : RecordedCall). c.era) (one (sym a.of_now.recorded ∙ ap (call_at said_calls) (sym same) ∙ k.recorded)) ∙ k.now)

    steps : (xs : List Placed) → AreKnown said_calls e xs → AreSame said_calls told_calls xs
    steps [] k = tt
    steps (x ∷ xs) k = (unchanged x.number (other x k.0), steps xs k.1)

  sames : AllSame said_calls told_calls book.over
  sames = same_over 1 book.over book.placed i.known (omega (arith, i.eras))

  distinct_now : (over : List Over) (placed : List Placed) → EachDistinct over placed → AreDistinct placed
  distinct_now [] placed d = d
  distinct_now (first ∷ over) placed d = distinct_now over placed d.1

  distinct : AreDistinct (a.ahead ++ a.step ∷ a.behind)
  distinct = subst AreDistinct a.placed (distinct_now book.over book.placed i.distinct)

  apart_ahead : (xs : List Placed) → AreDistinct (xs ++ a.step ∷ a.behind) → AllByRecursion (λ s. s.number ≢ number) xs
  apart_ahead [] d = tt
  apart_ahead (x ∷ xs) d = ((λ same. (all_behind (λ other. other.number ≢ x.number) xs (a.step ∷ a.behind) d.0).0 (a.named ∙ sym same)), apart_ahead xs d.1)

  apart_behind : (xs : List Placed) → AreDistinct (xs ++ a.step ∷ a.behind) → AllByRecursion (λ s. s.number ≢ number) a.behind
  apart_behind [] d = all_each _ _ a.behind (λ s apart same. apart (same ∙ sym a.named)) d.0
  apart_behind (x ∷ xs) d = apart_behind xs d.1

  -- the call that is answered
  known_told : (e : ℕ) → IsKnown said_calls e a.step → IsKnown told_calls e a.step
  known_told e k = record {
    call = told k.call;
    recorded = ap (call_at told_calls) a.named ∙ changed ∙ ap (λ c. Some (told c)) is;
    now = k.now;
    judged = k.judged;
    reply = k.reply;
    received = k.received;
    replied = inr (refl, refl);
    takes = k.takes;
    verifier = k.verifier;
  } where
    is : a.recorded ≡ k.call
    is = one (sym a.of_now.recorded ∙ ap (call_at said_calls) (sym a.named) ∙ k.recorded)

  known_now : (e : ℕ) → AreKnown said_calls e book.placed → AreKnown told_calls e book.placed
  known_now e k =
      let parts : AreKnown said_calls e (a.ahead ++ a.step ∷ a.behind) = subst (AreKnown said_calls e) a.placed k in
      let here = all_behind (IsKnown said_calls e) a.ahead (a.step ∷ a.behind) parts in
      subst (AreKnown told_calls e) (sym a.placed)
      (all_append (IsKnown told_calls e) a.ahead (a.step ∷ a.behind) (are_known_same said_calls told_calls e a.ahead (same_by a.ahead (apart_ahead a.ahead distinct)) (all_ahead (IsKnown said_calls e) a.ahead (a.step ∷ a.behind) parts))
      (known_told e here.0, are_known_same said_calls told_calls e a.behind (same_by a.behind (apart_behind a.ahead distinct)) here.1))

  begin_same : (n : ℕ) → begin_of told_calls n ≡ begin_of said_calls n
  begin_same n = go (nat_decide n number) where
    go : (n ≡ number) ⊎ (n ≢ number) → begin_of told_calls n ≡ begin_of said_calls n
    go (inl same) = ap (λ m. begin_of told_calls m) same ∙ ap begin_in changed ∙ sym (ap begin_in a.of_now.recorded) ∙ ap (begin_of said_calls) (sym same) where
      begin_in : Option RecordedCall → ℕ
      begin_in o = unwrap_or (option_map (λ (c : RecordedCall). c.begin) o) 0
    go (inr apart) = ap (λ o. unwrap_or (option_map (λ (c : RecordedCall). c.begin) o) 0) (unchanged n apart)

  begun_before : (n : ℕ) → begin_of said_calls n ≤ length book.history.events
  begun_before n = go (call_at said_calls n) refl where
    go : (o : Option RecordedCall) → call_at said_calls n ≡ o → begin_of said_calls n ≤ length book.history.events
    go None is = subst (λ (m : ℕ). m ≤ length book.history.events) (sym (ap (λ o. unwrap_or (option_map (λ (c : RecordedCall). c.begin) o) 0) is)) (omega arith)
    go (Some c) is =
        subst (λ (m : ℕ). m ≤ length book.history.events) (sym (ap (λ o. unwrap_or (option_map (λ (c : RecordedCall). c.begin) o) 0) is))
        (call_has (λ (c : RecordedCall). c.begin ≤ length book.history.events) said_calls n c i.begun is)

  -- an end behind the begins of those ahead
  later_still : (n : ℕ) (later : Placed) → ((at : ℕ) → end_of said_calls later.number ≡ Some at → begin_of said_calls n < at) → (at : ℕ) → end_of told_calls later.number ≡ Some at → begin_of told_calls n < at
  later_still n later before at ends = subst (λ (m : ℕ). m < at) (sym (begin_same n)) (go (nat_decide later.number number)) where
    go : (later.number ≡ number) ⊎ (later.number ≢ number) → begin_of said_calls n < at
    go (inl same) = past (begin_of said_calls n) (length book.history.events) (begun_before n) (now (sym (ap (λ o. option_and_then (λ (c : RecordedCall). c.«end») o) (ap (call_at told_calls) same ∙ changed)) ∙ ends)) where
      now : Some (length book.history.events + 1) ≡ Some at → length book.history.events + 1 ≡ at
      now f = cc

      past : (x y : ℕ) → x ≤ y → y + 1 ≡ at → x < at
      past x y f g = omega (arith, f, g)
    go (inr apart) = before at (sym (ap (option_and_then (λ (c : RecordedCall). c.«end»)) (unchanged later.number apart)) ∙ ends)

  order_still : (steps : List Placed) → AreInOrder said_calls steps → AreInOrder told_calls steps
  order_still [] o = tt
  order_still (s ∷ steps) o = (all_each _ _ steps (λ later before. later_still s.number later before) o.0, order_still steps o.1)

  complete : (n : ℕ) (c : RecordedCall) → call_at told_calls n ≡ Some c → IsSome c.outcome → IsPlaced book.over book.placed n
  complete n c at came = go (nat_decide n number) where
    among : (xs : List Placed) → IsPlacedIn (xs ++ a.step ∷ a.behind) number
    among [] = inl a.named
    among (x ∷ xs) = inr (among xs)

    go : (n ≡ number) ⊎ (n ≢ number) → IsPlaced book.over book.placed n
    go (inl same) = subst (IsPlaced book.over book.placed) (sym same) (is_placed_now book.over book.placed number (subst (λ xs. IsPlacedIn xs number) (sym a.placed) (among a.ahead)))
    go (inr apart) = i.complete n c (sym (unchanged n apart) ∙ at) came

  durable : AreDurable told_calls (records_kept book) book.device.mark book.placed
  durable ahead s behind parts ended = go (nat_decide s.number number) where
    go : (s.number ≡ number) ⊎ (s.number ≢ number) → IsDurable (records_kept book) book.device.mark ahead s
    go (inl same) =
        let p = same_parts ahead s behind a.ahead a.step a.behind (sym parts ∙ a.placed) (same ∙ sym a.named) distinct in
        subst (λ (xs : List Placed). IsDurable (records_kept book) book.device.mark xs s) (sym p.ahead) (subst (IsDurable (records_kept book) book.device.mark a.ahead) (sym p.here) a.durable)
    go (inr apart) = i.durable ahead s behind parts (subst IsSome (ap (option_and_then (λ (c : RecordedCall). c.«end»)) (unchanged s.number apart)) ended)

  -- the call is inside the model, as it was when it began
  inside_still : outside a.call None ≡ None
  inside_still =
      let asked = event_of (calls_of (all_happened book.history.events)) said_calls (number - 1) a.recorded i.genuine.is_history.known.calls here in
      let known : IsJudged asked.recorded.means.0 asked.recorded.means.1 a.call a.recorded.outcome =
      subst (λ (m : Meaning). IsKnownAs asked.recorded.means.0 asked.recorded.means.1 m a.recorded.outcome) a.judged asked.recorded.means.4 in
      ap (outside a.call) (sym silent) ∙ known.inside where
        silent : a.recorded.outcome ≡ None
        silent = go (call_has IsPaired said_calls number a.recorded i.paired a.of_now.recorded) where
          go : IsPaired a.recorded → a.recorded.outcome ≡ None
          go (inl quiet) = quiet.1
          go (inr came) = absurd (none_some a.unanswered came.0)

  genuine_now : IsGenuine (with_reply book.history number a.recorded.lane a.answer a.step.outcome)
  genuine_now =
      let told_so = genuine_reply book.history i.genuine (number - 1) a.recorded a.call a.message a.answer a.reply here a.judged a.unanswered a.of_now.is_open a.sent inside_still a.answers in
      subst (λ (n : ℕ). IsGenuine (with_reply book.history n a.recorded.lane a.answer a.step.outcome)) (omega (arith, number_is))
      (subst (λ (o : Outcome). IsGenuine (with_reply book.history (number - 1 + 1) a.recorded.lane a.answer o)) (sym a.received) told_so)

  pub after_answer : IsInvariant new
  after_answer = subst IsInvariant (sym a.done) (record {
    genuine = genuine_now;
    root = i.root;
    start = i.start;
    eras = i.eras;
    known = all_known_same said_calls told_calls 1 book.over book.placed book.placed sames (known_now (1 + length book.over)) i.known;
    distinct = i.distinct;
    complete = complete;
    paired = all_changed IsPaired told (number - 1) said_calls (λ c paired. inr (refl, refl)) i.paired;
    begun = all_each _ _ told_calls (λ c le. subst (λ (n : ℕ). c.begin ≤ n) (sym (length-append book.history.events _)) (le_more le)) (all_changed (λ (c : RecordedCall). c.begin ≤ length book.history.events) told (number - 1) said_calls (λ c le. le) i.begun);
    ordered = all_order_same said_calls told_calls book.over book.placed book.placed sames (order_still book.placed) i.ordered;
    runs = i.runs;
    made = i.made;
    cuts = cuts_same said_calls told_calls book.over sames i.cuts;
    durable = durable;
    records = i.records;
    mark = i.mark;
  })

-- ---- the other steps

after_flush : (book : Book) → IsInvariant book → IsInvariant (record book { device = record book.device { mark = length book.device.records } })
after_flush book i = record {
  genuine = i.genuine;
  root = i.root;
  start = i.start;
  eras = i.eras;
  known = i.known;
  distinct = i.distinct;
  complete = i.complete;
  paired = i.paired;
  begun = i.begun;
  ordered = i.ordered;
  runs = i.runs;
  made = i.made;
  cuts = i.cuts;
  durable = λ ahead step behind parts ended. (let d = i.durable ahead step behind parts ended in ((λ promise. further (d.0 promise) i.mark.1), (λ commit. further (d.1 commit) i.mark.1)));
  records = i.records;
  mark = (further i.mark.0 i.mark.1, omega arith);
} where
  further : {x y z : ℕ} → x ≤ y → y ≤ z → x ≤ z
  further f g = omega (arith, f, g)

after_close : (book : Book) → IsInvariant book → (lane : ℕ) → IsOpen book lane → IsInvariant (record book { history = with_close book.history lane })
after_close book i lane is_open = record {
  genuine = genuine_close book.history lane i.genuine is_open;
  root = i.root;
  start = i.start;
  eras = i.eras;
  known = i.known;
  distinct = i.distinct;
  complete = i.complete;
  paired = i.paired;
  begun = all_each _ _ book.history.known.calls (λ c le. subst (λ (n : ℕ). c.begin ≤ n) (sym (length-append book.history.events _)) (le_more le)) i.begun;
  ordered = i.ordered;
  runs = i.runs;
  made = i.made;
  cuts = i.cuts;
  durable = i.durable;
  records = i.records;
  mark = i.mark;
}

module _ (book : Book) (i : IsInvariant book) (keep : ℕ) (new : Book) (c : Crashes book keep new) where
  abbrev count : ℕ
  count = keep - records_kept book

  abbrev ended : Over
  ended = record { steps = book.placed; kept = front_with count book.placed }

  kept_before : records_kept book ≤ keep
  kept_before = further i.mark.0 c.least where
    further : {x y z : ℕ} → x ≤ y → y ≤ z → x ≤ z
    further f g = omega (arith, f, g)

  count_within : count ≤ records_in book.placed
  count_within = omega (arith, c.most, i.records, kept_before)

  kept_now : records_in (kept_steps (book.over ++ ended ∷ [])) ≡ keep
  kept_now =
      ap records_in (flat_map-append (λ (x : Over). take x.kept x.steps) book.over (ended ∷ []))
      ∙ records_append (kept_steps book.over) (take ended.kept ended.steps ++ [])
      ∙ ap (λ xs. records_kept book + records_in xs) (append-nil (take ended.kept ended.steps))
      ∙ ap (λ n. records_kept book + n) (records_front count book.placed count_within) ∙ omega (arith, kept_before)

  cut : IsCutSafely book.history.known.calls ended
  cut = record {
    count = count;
    front = refl;
    durable = λ ahead step behind parts ends. (let d = i.durable ahead step behind parts ends in ((λ promise. less (records_kept book) (records_in (ahead ++ step ∷ [])) book.device.mark (d.0 promise) c.least), (λ commit. less (records_kept book) (records_in ahead) book.device.mark (d.1 commit) c.least)));
  } where
    less : (b r m : ℕ) → b + r ≤ m → m ≤ keep → 0 + r ≤ keep - b
    less b r m f g = omega (arith, f, g)

  taken : length (take keep book.device.records) ≡ keep
  taken = length-take keep book.device.records ∙ least c.most where
    least : {k n : ℕ} → k ≤ n → min k n ≡ k
    least f = omega (arith, f)

  pub after_crash : IsInvariant new
  after_crash = subst IsInvariant (sym c.done) (record {
    genuine = genuine_crash book.history i.genuine;
    root = i.root;
    start = i.start;
    eras = (let longer = length-append book.over (ended ∷ []) in omega (arith, i.eras, longer));
    known = known_over book.history.known.calls 1 book.over book.placed ended.kept i.known;
    distinct = each_distinct_over book.over book.placed ended.kept i.distinct;
    complete = λ n call at came. is_placed_over book.over book.placed ended.kept n (i.complete n call at came);
    paired = i.paired;
    begun = all_each _ _ book.history.known.calls (λ call le. subst (λ (n : ℕ). call.begin ≤ n) (sym (length-append book.history.events _)) (le_more le)) i.begun;
    ordered = order_over book.history.known.calls book.over book.placed ended.kept i.ordered;
    runs = all_run_over (setting book) book.over book.placed ended.kept (tree_at_first book) i.runs;
    made = all_each _ _ book.made (λ object has. (still object has.0, has.1)) i.made;
    cuts = all_append (IsCutSafely book.history.known.calls) book.over (ended ∷ []) i.cuts (cut, tt);
    durable = λ ahead step behind parts ends. absurd (nothing ahead step behind parts);
    records = taken ∙ sym kept_now ∙ add_none (records_in (kept_steps (book.over ++ ended ∷ [])));
    mark = (at_most kept_now, at_least taken);
  }) where
    still : (object : ℕ) → IsMade (length book.history.known.head.start) book.over book.placed object → IsMade (length book.history.known.head.start) (book.over ++ ended ∷ []) [] object
    still object (inl at_first) = inl at_first
    still object (inr call) = inr (call.0, is_placed_over book.over book.placed ended.kept call.0 call.1, call.2)

    add_none : (x : ℕ) → x ≡ x + 0
    add_none x = omega arith

    at_most : {x : ℕ} → x ≡ keep → x ≤ keep
    at_most f = omega (arith, f)

    at_least : {x : ℕ} → x ≡ keep → keep ≤ x
    at_least f = omega (arith, f)

    nothing : (ahead : List Placed) (step : Placed) (behind : List Placed) → [] ≡ ahead ++ step ∷ behind → ⊥
    nothing [] step behind f = cc
    nothing (x ∷ ahead) step behind f = cc

after_refusal : (book new : Book) → IsInvariant book → Refuses book new → IsInvariant new
after_refusal book new i r = subst IsInvariant (sym r.done) (record {
  genuine = record { is_history = record { known = i.genuine.is_history.known; events = i.genuine.is_history.events }; waiting = i.genuine.waiting };
  root = i.root;
  start = i.start;
  eras = i.eras;
  known = i.known;
  distinct = i.distinct;
  complete = i.complete;
  paired = i.paired;
  begun = i.begun;
  ordered = i.ordered;
  runs = i.runs;
  made = i.made;
  cuts = i.cuts;
  durable = i.durable;
  records = i.records;
  mark = i.mark;
})

-- ---- all steps

pub kept : (book new : Book) → IsInvariant book → Steps book new → IsInvariant new
kept book new i (begins lane message b) = subst IsInvariant (sym b.done) (after_begin book i lane message b.call (genuine_call book.history lane message b.call i.genuine b.is_open b.free b.recordable))
kept book new i (places number reply p) = after_place book i number reply new p
kept book new i (flushes f) = subst IsInvariant (sym f.done) (after_flush book i)
kept book new i (answers number a) = after_answer book i number new a
kept book new i (closes lane c) = subst IsInvariant (sym c.done) (after_close book i lane c.is_open)
kept book new i (crashes keep c) = after_crash book i keep new c
kept book new i (refuses r) = after_refusal book new i r
