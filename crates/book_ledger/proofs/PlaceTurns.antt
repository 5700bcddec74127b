-- the turns of a call that is placed, over the parts in memory
use Rattle.file_tree.specs.Setting.{under}
use Rattle.std.proofs.Common.{◌≡◌, ℕ, zero, suc, ◌-◌, ◌<◌, ◌≤◌, ◌^◌, Bool, true, false, List, [], ◌∷◌, ◌++◌, length, Option, Some, None, refl, sym, ap, ◌∙◌, subst}
use Rattle.std.specs.Prelude.{IfSome, is_some, if◌then◌else◌, slice_get, slice_set, option_map}
use Rattle.std.specs.Option.{option_map_or}
use Rattle.std.proofs.lemmas.Option.{slice_get-map}
use Rattle.xdr_records.specs.Record.{record_limit}
use Rattle.nfs3_types.specs.declared.calls.NfsCall.{NfsCall}
use Rattle.nfs3_types.specs.declared.calls.NfsCall.TheVariants as calls
use Rattle.nfs3_types.specs.declared.replies.NfsReply.{NfsReply}
use Rattle.nfs3_types.specs.declared.replies.Outcome.{Outcome}
use Rattle.nfs3_types.specs.declared.replies.Outcome.TheVariants as outcomes
use Rattle.history_file.specs.declared.event.Event as owned
use Rattle.history_file.specs.declared.event.Event.TheVariants as owns
use Rattle.history_file.specs.Event.Event.{call}
use Rattle.history_file.specs.Owning.{happened, all_happened}
use Rattle.nfs_history.specs.declared.recorded.Meaning.TheVariants as meanings
use Rattle.nfs_history.specs.declared.recorded.RecordedCall.{RecordedCall}
use Rattle.nfs_history.specs.HistoryValue.{HistoryValue}
use Rattle.nfs_history.specs.Calls.{calls_of}
use Rattle.nfs_history.specs.Precedence.{call_at}
use Rattle.nfs_history.proofs.AppendSteps.{began_at}
use Rattle.tree_nodes.specs.Tree.{Tree, entry_of}
use Rattle.cut_check.specs.Verifier.{verifier_of}
use Rattle.tree_handles.specs.Binding.{Bindings, object_of}
use Rattle.journal.specs.Device.{Device}
use Rattle.book_laws.specs.Placing.{is_recorded}
use Rattle.book_laws.specs.Book.{Book, bindings, bindings_made}
use Rattle.book_laws.specs.Book.Condition.{running as is_running, down as is_down}
use Rattle.book_laws.specs.Served.{IsServed}
use Rattle.book_laws.specs.Steps.{IsUnplaced, Places, step_of, with_made, with_record, reply_message, journal_record}
use Rattle.book_laws.proofs.Growing.{IsGenuine, event_of}
use Rattle.book_ledger.specs.Refusals.{IsNow}
use Rattle.book_ledger.specs.Recordable.{may_make}
use Rattle.book_ledger.specs.declared.placed.Condition as code
use Rattle.book_ledger.specs.declared.placed.Condition.TheVariants as codes
use Rattle.book_ledger.specs.declared.placing.TreeStep.{TreeStep}
use Rattle.book_ledger.specs.declared.ledger.Ledger.{Ledger}
use Rattle.book_ledger.specs.Inside.{object_in, call_in, asked_by, condition_of, book_of, AreTied}
use Rattle.book_ledger.specs.PlaceSteps.{without_own, bound_if, NameAlike, TakesStep, HasStepped, HasNoStep, HasStayed, ShowsNow, MayGive, IsShortAnswer, HasPlaced, HasLost, IsSame}
use Rattle.book_ledger.proofs.Reaching.{reached_holds, reached_asked}
use Rattle.book_ledger.proofs.Parts.{Parts, parts_of, book_with, Tied, to_parts, from_parts, same_parts, down_tied, treeless}
use Rattle.book_ledger.proofs.Naming.{forgotten_so, alike_next}
use Rattle.book_ledger.proofs.PlaceSteps.{made_step, served_alike}
use Rattle.book_ledger.proofs.NewPlace.{IsReadyFor, IsGiven, stood_book, is_absent, is_free, own_not_zero, no_others, new_parts, placed_so, placed_tied}

-- ---- ahead of the step

pub runs_now : (c : code.Condition) → condition_of c ≡ is_running → c ≡ codes.Running
runs_now codes.Running e = refl
runs_now codes.Down e = absurd (cc)
runs_now codes.Dead e = absurd (cc)

same_call : {a b : RecordedCall} → Some a ≡ Some b → a ≡ b
same_call e = cc

pub asked_is : (recorded : List RecordedCall) (number : ℕ) (c : RecordedCall) (asked : NfsCall) → call_at recorded number ≡ Some c → c.meaning ≡ meanings.Judged asked → asked_by recorded number ≡ asked
asked_is recorded number c asked at is = ap (λ (o : Option RecordedCall). option_map_or (λ (d : RecordedCall). call_in d.meaning) o (calls.GetAttr [])) at ∙ ap call_in is

-- a call's event is the one that is owned
owned_at : (events : List owned.Event) (k lane : ℕ) (message : List ℕ) → slice_get (all_happened events) k ≡ Some (call lane message) → slice_get events k ≡ Some (owns.Call lane message)
owned_at events k lane message e = go (slice_get events k) (sym (slice_get-map happened events k) ∙ e) where
  go : (o : Option owned.Event) → option_map happened o ≡ Some (call lane message) → o ≡ Some (owns.Call lane message)
  go None f = absurd (cc)
  go (Some (owns.Call l m)) f = λ i. Some (owns.Call (lanes f i) (texts f i)) where
    lanes : Some (call l m) ≡ Some (call lane message) → l ≡ lane
    lanes g = cc

    texts : Some (call l m) ≡ Some (call lane message) → m ≡ message
    texts g = cc
  go (Some (owns.Reply l m)) f = absurd (cc)
  go (Some (owns.Close l)) f = absurd (cc)
  go (Some owns.Crash) f = absurd (cc)

pub message_there : (h : HistoryValue) (n : ℕ) (c : RecordedCall) → IsGenuine h → call_at h.known.calls n ≡ Some c → (message : List ℕ) × (slice_get h.events (c.begin - 1) ≡ Some (owns.Call c.lane message))
message_there h zero c g at = absurd (cc)
message_there h (suc k) c g at =
    let asked = event_of (calls_of (all_happened h.events)) h.known.calls k c g.is_history.known.calls at in
    let began = began_at h k c asked in
    (asked.event.message, owned_at h.events (c.begin - 1) c.lane asked.event.message (began.event ∙ ap (λ (l : ℕ). Some (call l asked.event.message)) (sym asked.recorded.lane)))

pub ready : (ledger : Ledger) (device : Device) (number : ℕ) (before : Tree) → AreTied ledger device → condition_of ledger.condition ≡ is_running → object_in ledger number < 2 ^ 64 → IsNow (book_of ledger device) number
    → IsUnplaced (book_of ledger device).placed number → ledger.tree ≡ Some before → IsReadyFor (parts_of ledger) device number before
ready ledger device number before t running lt now unplaced stood =
    let recorded = ledger.history.known.calls in
    let asked = reached_asked (book_of ledger device) number now.0 t.reached now.1.recorded in
    let same = same_call (sym now.1.recorded ∙ asked.2) in
    let told = message_there (book_of ledger device).history number now.0 (reached_holds (book_of ledger device) t.reached).genuine now.1.recorded in
    record {
      tied = to_parts ledger device t;
      running = runs_now ledger.condition running;
      lt = lt;
      call = now.0;
      of_now = now.1;
      judged = ap (λ (c : RecordedCall). c.meaning) same ∙ asked.3 ∙ ap (λ (a : NfsCall). meanings.Judged a) (sym (asked_is recorded number asked.0 asked.1 asked.2 asked.3));
      message = told.0;
      sent = told.1;
      unplaced = unplaced;
      stood = stood;
    }

-- ---- a book that is the same

pub same_tied : (old new : Ledger) (device : Device) → IsSame old new → AreTied old device → AreTied new device × (book_of new device ≡ book_of old device)
same_tied old new device s t =
    let same : parts_of new ≡ parts_of old = same_parts (parts_of new) (parts_of old) (λ i. (s.history i).known) (λ i. (s.history i).events) (λ i. (s.over i).items) s.placed (λ i. (s.calls i).items) s.binds s.tree s.undos s.kept s.condition in
    (from_parts new device (subst (λ (p : Parts). Tied p device) (sym same) (to_parts old device t)), ap (λ (p : Parts). book_with p device) same)

-- with handles bound in another order
rebound : (p : Parts) (device : Device) (binds : Bindings) → NameAlike binds p.binds → Tied p device → Tied (record p { binds = binds }) device
rebound p device binds alike t = record {
  reached = t.reached;
  kept = t.kept;
  counted = t.counted;
  placed = record { count = t.placed.count; there = t.placed.there; has = t.placed.has };
  short = t.short;
  bound = λ handle. alike handle ∙ t.bound handle;
  tree = t.tree;
  stands = t.stands;
  undos = t.undos;
  undone = t.undone;
}

pub stayed_tied : (old new : Ledger) (device : Device) → HasStayed old new → AreTied old device → AreTied new device × (book_of new device ≡ book_of old device)
stayed_tied old new device s t =
    let same : parts_of new ≡ record (parts_of old) { binds = new.binds } = ap parts_of s.parts in (
      from_parts new device (subst (λ (p : Parts). Tied p device) (sym same) (rebound (parts_of old) device new.binds s.names (to_parts old device t))),
      ap (λ (p : Parts). book_with p device) same,
    )

-- ---- a step that is lost

pub lost_tied : (old stepped new : Ledger) (device : Device) (number : ℕ) (outcome : Outcome) (before : Tree) (step : TreeStep) → IsReadyFor (parts_of old) device number before → HasStepped old number outcome step stepped
    → HasLost stepped number step.made new → AreTied new device × (book_of new device ≡ record (book_of old device) { condition = is_down })
lost_tied old stepped new device number outcome before step r s l =
    let p = parts_of old in
    let downed : Parts = record p { condition = codes.Down } in
    let gone : Parts = record downed { binds = new.binds; tree = None; undos = new.undos.items } in
    let same : parts_of new ≡ gone =
    same_parts (parts_of new) (record (parts_of stepped) { binds = new.binds; tree = None; undos = new.undos.items; condition = codes.Down }) (λ i. (l.history i).known) (λ i. (l.history i).events) (λ i. (l.over i).items) (λ i. (l.placed i).items) (λ i. (l.calls i).items) refl l.tree refl l.kept l.condition
    ∙ ap (λ (q : Parts). record q { binds = new.binds; tree = None; undos = new.undos.items; condition = codes.Down }) (ap parts_of s.parts) in
    let tied : Tied gone device = treeless downed device new.binds new.undos.items (names step.made refl) (down_tied p device alive r.tied) refl in
    (from_parts new device (subst (λ (q : Parts). Tied q device) (sym same) tied), ap (λ (q : Parts). book_with q device) same) where
      alive : old.condition ≡ codes.Dead → ⊥
      alive dead = clash (sym r.running ∙ dead) where
        clash : codes.Running ≡ codes.Dead → ⊥
        clash e = cc

      same_object : object_in stepped number ≡ object_in old number
      same_object = ap (λ (q : Ledger). object_in q number) s.parts

      names : (b : Bool) → step.made ≡ b → NameAlike new.binds old.binds
      names true is = λ handle.
          ap (λ (binds : Bindings). object_of binds handle) (l.binds ∙ ap (λ (b : Bool). if b then without_own (object_in stepped number) stepped.binds else stepped.binds) is)
          ∙ ap (λ (n : ℕ). object_of (without_own n stepped.binds) handle) same_object ∙ forgotten_so (object_in old number) old.binds stepped.binds (is_free (parts_of old) device number before r) (λ h. s.takes.names h ∙ ap (λ (b : Bool). object_of (bound_if b (object_in old number) old.binds) h) is) (own_not_zero (parts_of old) device number before r) handle
      names false is = λ handle.
          ap (λ (binds : Bindings). object_of binds handle) (l.binds ∙ ap (λ (b : Bool). if b then without_own (object_in stepped number) stepped.binds else stepped.binds) is)
          ∙ s.takes.names handle ∙ ap (λ (b : Bool). object_of (bound_if b (object_in old number) old.binds) handle) is

-- ---- a place

pub same_tree_there : {a b : Tree} {o : Option Tree} → o ≡ Some a → o ≡ Some b → a ≡ b
same_tree_there {a} {b} {o} e f = one (sym e ∙ f) where
  one : Some a ≡ Some b → a ≡ b
  one g = cc

-- the parts with a call more
abbrev with_last : ℕ → Outcome → TreeStep → Bool → ℕ → Parts → Parts
with_last number outcome step recorded records q =
    record q {
      placed = q.placed ++ record { number = number; outcome = outcome; records = records } ∷ [];
      calls = slice_set q.calls (number - 1) (record { place = Some (length q.placed); made = step.made });
      undos = if recorded then q.undos ++ step.undo ∷ [] else q.undos;
    }

placed_parts : (old stepped new : Ledger) (number : ℕ) (outcome : Outcome) (step : TreeStep) (recorded : Bool) (records : ℕ) (s : HasStepped old number outcome step stepped) → HasPlaced stepped number outcome step recorded records new
    → parts_of new ≡ with_last number outcome step recorded records (record (parts_of old) { binds = stepped.binds; tree = Some s.after })
placed_parts old stepped new number outcome step recorded records s h =
    same_parts (parts_of new) (with_last number outcome step recorded records (parts_of stepped)) (λ i. (h.history i).known) (λ i. (h.history i).events) (λ i. (h.over i).items) h.placed h.calls h.binds h.tree h.undos h.kept
    h.condition
    ∙ ap (with_last number outcome step recorded records) (ap parts_of s.parts)

module _ (old : Ledger) (device : Device) (number : ℕ) (reply : NfsReply) (before : Tree) (r : IsReadyFor (parts_of old) device number before) where
  abbrev asked : NfsCall
  asked = asked_by old.history.known.calls number

  abbrev pub recorded : Bool
  recorded = is_recorded (step_of number asked reply)

  abbrev pub device_then : Device
  device_then = with_record recorded (journal_record number r.message (reply_message r.call.xid reply)) device

  pub new_place : (stepped new : Ledger) (step : TreeStep) (records : ℕ) → IsGiven (parts_of old) device number before reply r.call → HasStepped old number (outcomes.Received reply) step stepped
      → HasPlaced stepped number (outcomes.Received reply) step recorded records new → records ≡ length device_then.records → AreTied new device_then × Places (book_of old device) number reply (book_of new device_then)
  new_place stepped new step records g s h count =
      let takes = subst (λ (tree : Tree). TakesStep old.history.known.head.profile (may_make asked) old.binds tree (object_in old number) asked (outcomes.Received reply) stepped.binds s.after step) (same_tree_there s.stood r.stood) s.takes in
      let next = new_parts (parts_of old) device number before r reply g stepped.binds s.after step takes in
      let same : parts_of new ≡ next =
      placed_parts old stepped new number (outcomes.Received reply) step recorded records s h
      ∙ ap (λ (n : ℕ). with_last number (outcomes.Received reply) step recorded n (record (parts_of old) { binds = stepped.binds; tree = Some s.after })) count in (
        from_parts new device_then (subst (λ (q : Parts). Tied q device_then) (sym same) (placed_tied (parts_of old) device number before r reply g stepped.binds s.after step takes)),
        subst (λ (q : Parts). Places (book_of old device) number reply (book_with q device_then)) (sym same) (placed_so (parts_of old) device number before r reply g stepped.binds s.after step takes),
      )

  -- ---- a call that may not be placed

  module _ (new : Book) (p : Places (book_of old device) number reply new) where
    before_is : p.before ≡ before
    before_is = same_tree_there p.stood (stood_book (parts_of old) device number before r)

    call_is : p.call ≡ asked
    call_is = same_asked (sym p.judged ∙ ap (λ (c : RecordedCall). c.meaning) (same_call (sym p.of_now.recorded ∙ r.of_now.recorded)) ∙ r.judged) where
      same_asked : {a b : NfsCall} → meanings.Judged a ≡ meanings.Judged b → a ≡ b
      same_asked e = cc

    has_step : under old.history.known.head.profile (bound_if (may_make asked) (object_in old number) old.binds) before (object_in old number) asked (outcomes.Received reply) ≡ Some p.after
    has_step =
        made_step old.history.known.head.profile old.binds (book_of old device).made r.tied.bound (object_in old number) r.lt (no_others (parts_of old) device number before r) before (is_absent (parts_of old) device number before r) asked reply (may_make asked) p.after refl
        (is_some (entry_of p.after (object_in old number))) refl
        (subst (λ (c : NfsCall). under old.history.known.head.profile (bindings_made (with_made (object_in old number) p.after (book_of old device).made)) before (object_in old number) c (outcomes.Received reply) ≡ Some p.after) call_is
        (subst (λ (t : Tree). under old.history.known.head.profile (bindings_made (with_made (object_in old number) p.after (book_of old device).made)) t (object_in old number) p.call (outcomes.Received reply) ≡ Some p.after) before_is p.next))

    pub not_without_step : HasNoStep old number (outcomes.Received reply) → ⊥
    not_without_step none = clash (sym (none before r.stood) ∙ has_step) where
      clash : None ≡ Some p.after → ⊥
      clash e = cc

    pub shows : ShowsNow old number (outcomes.Received reply)
    shows = subst (λ (c : NfsCall). IfSome (verifier_of c (outcomes.Received reply)) (λ verifier. verifier ≡ old.history.known.eras)) call_is p.verifier

    pub gives : MayGive old number (outcomes.Received reply)
    gives tree other stood is =
        let same = one is in
        subst (λ (x : NfsReply). IsServed old.binds tree (object_in old number) asked x) same
        (subst (λ (t : Tree). IsServed old.binds t (object_in old number) asked reply) (same_tree_there r.stood stood)
        (served_alike (bindings (book_of old device)) old.binds before (object_in old number) asked reply (λ handle. sym (r.tied.bound handle)) (sym (alike_next old.binds (book_of old device).made r.tied.bound))
        (subst (λ (c : NfsCall). IsServed (bindings (book_of old device)) before (object_in old number) c reply) call_is (subst (λ (t : Tree). IsServed (bindings (book_of old device)) t (object_in old number) p.call reply) before_is p.served)))) where
          one : {a b : NfsReply} → outcomes.Received a ≡ outcomes.Received b → a ≡ b
          one e = cc

    pub is_short : IsShortAnswer old number (outcomes.Received reply)
    is_short c other at is =
        subst (λ (x : NfsReply). length (reply_message c.xid x) ≤ record_limit) (one is)
        (subst (λ (d : RecordedCall). length (reply_message d.xid reply) ≤ record_limit) (same_call (sym p.of_now.recorded ∙ at)) p.within) where
          one : {a b : NfsReply} → outcomes.Received a ≡ outcomes.Received b → a ≡ b
          one e = cc
