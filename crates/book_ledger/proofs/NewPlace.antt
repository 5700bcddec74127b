-- the parts of a book behind the place of a call
use Rattle.std.proofs.Common.{◌≡◌, ◌≢◌, ◌⊎◌, inl, inr, ℕ, zero, suc, ◌+◌, ◌-◌, ◌<◌, ◌≤◌, ◌^◌, Bool, true, false, List, [], ◌∷◌, ◌++◌, length, take, Option, Some, None, refl, sym, ap, ◌∙◌, subst, arith}
use Rattle.std.specs.Prelude.{IsSome, IfSome, ◌&&◌, is_some, if◌then◌else◌, slice_get, slice_set}
use Rattle.std.specs.List.{AllByRecursion}
use Rattle.std.proofs.lemmas.List.{map-append, length-append, append_assoc}
use Rattle.std.proofs.lemmas.Option.{slice_get_within}
use Rattle.xdr_records.specs.Record.{record_limit}
use Rattle.rpc_reader.specs.Values.Body.{success}
use Rattle.rpc_reader.specs.Messages.{IsReply}
use Rattle.nfs3_types.specs.declared.calls.NfsCall.{NfsCall}
use Rattle.nfs3_types.specs.declared.replies.NfsReply.{NfsReply}
use Rattle.nfs3_types.specs.declared.replies.Outcome.TheVariants as outcomes
use Rattle.nfs3_types.specs.Procedures.{procedure_answered}
use Rattle.nfs3_msgs.specs.Messages.{IsResult, result_text}
use Rattle.history_file.specs.declared.event.Event.TheVariants as owns
use Rattle.nfs_history.specs.declared.recorded.Meaning.TheVariants as meanings
use Rattle.nfs_history.specs.declared.recorded.RecordedCall.{RecordedCall}
use Rattle.nfs_history.specs.Precedence.{call_at}
use Rattle.replay_law.specs.Run.{state_after, kept_steps}
use Rattle.replay_law.specs.Undone.{UndoesAll}
use Rattle.replay_law.proofs.Runs.{one_more}
use Rattle.replay_law.proofs.Undos.{one_more_undone}
use Rattle.tree_nodes.specs.declared.undo.Undo.{Undo}
use Rattle.tree_starts.specs.Head.{Head}
use Rattle.tree_starts.specs.Start.{object_made}
use Rattle.tree_nodes.specs.Tree.{Tree, entry_of}
use Rattle.tree_nodes.specs.Undo.{TakesBack}
use Rattle.tree_handles.specs.Binding.{Bindings, object_of}
use Rattle.file_tree.specs.Setting.{under}
use Rattle.file_tree.specs.StartTree.{start_tree}
use Rattle.file_tree.proofs.Profiles.{comes_out_plain}
use Rattle.journal.specs.Device.{Device}
use Rattle.book_laws.specs.Placing.{Placed, is_recorded, records_in, front_with}
use Rattle.book_laws.specs.Book.{Book, handle_of, bindings, bindings_made, setting, setting_made, next_by, tree_of, records_kept}
use Rattle.book_laws.specs.Served.{IsServed}
use Rattle.book_laws.specs.Steps.{IsOfNow, IsUnplaced, HasMessage, ShowsEra, IsAnswerTo, Places, step_of, with_object, with_made, with_record, reply_message, journal_record}
use Rattle.book_laws.specs.Steps.Steps.{places}
use Rattle.book_laws.proofs.Invariant.{IsInvariant}
use Rattle.book_laws.proofs.Lists.{all_append, all_each}
use Rattle.book_laws.proofs.Starting.{call_alone}
use Rattle.book_laws.proofs.Bound.{AreApart, apart_front, kept_apart, run_same}
use Rattle.book_laws.proofs.Running.{unrecorded_leaves_by}
use Rattle.book_laws.proofs.Stable.{records_append}
use Rattle.book_ledger.specs.Recordable.{may_make}
use Rattle.book_ledger.specs.Serving.{IsAllowed}
use Rattle.book_ledger.specs.declared.placed.PlacedCall.{PlacedCall}
use Rattle.book_ledger.specs.declared.placed.CallState.{CallState}
use Rattle.book_ledger.specs.declared.placed.Condition.TheVariants as codes
use Rattle.book_ledger.specs.declared.placing.TreeStep.{TreeStep}
use Rattle.book_ledger.specs.Inside.{asked_by, placed_in, made_in, condition_of, IsReached, tree_behind}
use Rattle.book_ledger.specs.PlaceSteps.{bound_if, TakesStep}
use Rattle.book_ledger.proofs.Reaching.{reached_holds, reach_more}
use Rattle.book_ledger.proofs.Replied.{right_reply_by}
use Rattle.book_ledger.proofs.Standing.{HasSent, has_sent}
use Rattle.book_ledger.proofs.AnswersTo.{answers_it}
use Rattle.book_ledger.proofs.Parts.{Parts, book_with, HavePlaces, Tied}
use Rattle.book_ledger.proofs.CrashSteps.{now_asked}
use Rattle.book_ledger.proofs.Naming.{own_free, own_alike}
use Rattle.book_ledger.proofs.Making.{none_made}
use Rattle.book_laws.proofs.Apart.{isnt_zero, past_first, apart_eras, apart_all, others, absent}
use Rattle.book_ledger.proofs.Noting.{made_more_in, made_same_in, hadnt_made_in, counted_more, placing, places_more}
use Rattle.book_ledger.proofs.Behind.{front_same, behind_all}
use Rattle.book_ledger.proofs.PlaceSteps.{step_made, given}

-- a call that may be placed, ahead of its step
pub record IsReadyFor (p : Parts) (device : Device) (number : ℕ) (before : Tree) : Type 0 where
  pub tied : Tied p device
  pub running : p.condition ≡ codes.Running
  pub lt : object_made (length p.known.head.start) number < 2 ^ 64
  pub call : RecordedCall
  pub of_now : IsOfNow (book_with p device) number call
  pub judged : call.meaning ≡ meanings.Judged (asked_by p.known.calls number)
  pub message : List ℕ
  pub sent : HasMessage (book_with p device) call message
  pub unplaced : IsUnplaced (book_with p device).placed number
  pub stood : p.tree ≡ Some before

-- and its reply
pub record IsGiven (p : Parts) (device : Device) (number : ℕ) (before : Tree) (reply : NfsReply) (call : RecordedCall) : Type 0 where
  pub verifier : ShowsEra (book_with p device) (asked_by p.known.calls number) reply
  pub gives : IsAllowed p.binds before (asked_by p.known.calls number) reply → IsServed p.binds before (object_made (length p.known.head.start) number) (asked_by p.known.calls number) reply
  pub within : length (reply_message call.xid reply) ≤ record_limit
  pub said : IsReply (reply_message call.xid reply) (record { xid = call.xid; body = success (result_text reply) }) × IsResult (procedure_answered reply) (result_text reply) reply

-- a list with one more in two parts
last_part : {X : Type 0} (xs : List X) (x : X) (earlier later : List X) → xs ++ x ∷ [] ≡ earlier ++ later
    → (later ≡ []) ⊎ ((front : List X) × (xs ≡ earlier ++ front) × (later ≡ front ++ x ∷ []))
last_part xs x [] later e = inr (xs, refl, sym e)
last_part {X} [] x (y ∷ []) later e = inl (rest e) where
  rest : {a b : X} {xs ys : List X} → a ∷ xs ≡ b ∷ ys → ys ≡ xs
  rest f = cc
last_part [] x (y ∷ z ∷ earlier) later e = absurd (cc)
last_part {X} (w ∷ xs) x (y ∷ earlier) later e = go (last_part xs x earlier later (rest e)) where
  rest : {a b : X} {xs ys : List X} → a ∷ xs ≡ b ∷ ys → xs ≡ ys
  rest f = cc

  first : {a b : X} {xs ys : List X} → a ∷ xs ≡ b ∷ ys → a ≡ b
  first f = cc

  go : (later ≡ []) ⊎ ((front : List X) × (xs ≡ earlier ++ front) × (later ≡ front ++ x ∷ [])) → (later ≡ []) ⊎ ((front : List X) × (w ∷ xs ≡ y ∷ (earlier ++ front)) × (later ≡ front ++ x ∷ []))
  go (inl none) = inl none
  go (inr parts) = inr (parts.0, (λ i. first e i ∷ parts.1 i), parts.2)

module _ (p : Parts) (device : Device) (number : ℕ) (before : Tree) (r : IsReadyFor p device number before) where
  abbrev book : Book
  book = book_with p device

  abbrev asked : NfsCall
  asked = asked_by p.known.calls number

  abbrev head : Head
  head = p.known.head

  abbrev first : ℕ
  first = length head.start

  -- the object of its number
  abbrev pub own : ℕ
  own = object_made first number

  pub holds : IsInvariant book
  holds = reached_holds book r.tied.reached

  pub stood_book : tree_of book ≡ Some before
  stood_book = subst (λ (o : Option Tree). IfSome o (λ tree. tree_of book ≡ Some tree)) r.stood r.tied.tree

  pub is_absent : entry_of before own ≡ None
  is_absent = absent book holds number r.call r.of_now.recorded r.of_now.era r.unplaced before stood_book

  pub not_zero : number ≢ 0
  not_zero = isnt_zero book holds number r.call r.of_now.recorded r.of_now.era r.unplaced

  pub own_not_zero : own ≢ 0
  own_not_zero same = let lt = past_first book holds number r.call r.of_now.recorded r.of_now.era r.unplaced in omega (arith, lt, same)

  pub no_others : AllByRecursion (λ other. (other ≢ own) × (other < 2 ^ 64)) book.made
  no_others = others book holds number r.call r.of_now.recorded r.of_now.era r.unplaced

  are_apart : AreApart number (kept_steps book.over ++ book.placed)
  are_apart = apart_all book holds number r.call r.of_now.recorded r.of_now.era r.unplaced

  -- its handle names nothing
  pub is_free : object_of p.binds (handle_of own) ≡ None
  is_free = r.tied.bound (handle_of own) ∙ own_free own book.made r.lt no_others own_not_zero

  -- runs without it are the same
  same_runs : (there : Bool) (steps : List Placed) → AreApart number steps
      → state_after (next_by (setting_made head (if there then with_object own book.made else book.made))) (start_tree head.start) steps ≡ state_after (next_by (setting book)) (start_tree head.start) steps
  same_runs true steps apart = sym (run_same head number book.made r.lt no_others steps apart (start_tree head.start) (call_alone head.start holds.start number not_zero))
  same_runs false steps apart = refl

  positive : 1 ≤ number
  positive = go number not_zero where
    go : (n : ℕ) → n ≢ 0 → 1 ≤ n
    go zero apart = absurd (apart refl)
    go (suc n) apart = omega arith

  index_is : 1 + (number - 1) ≡ number
  index_is = go number positive where
    go : (n : ℕ) → 1 ≤ n → 1 + (n - 1) ≡ n
    go n le = omega (arith, le)

  call_within : number ≤ length p.known.calls
  call_within = go p.known.calls number r.of_now.recorded where
    go : (calls : List RecordedCall) (n : ℕ) → call_at calls n ≡ Some r.call → n ≤ length calls
    go calls zero e = omega arith
    go calls (suc n) e = let lt = slice_get_within calls n r.call e in omega (arith, lt)

  pub within_calls : number ≤ length p.calls
  within_calls = subst (λ (n : ℕ). number ≤ n) (sym r.tied.placed.count) call_within

  there_before : (state : CallState) × (slice_get p.calls (number - 1) ≡ Some state)
  there_before = go p.calls (number - 1) (below number (length p.calls) positive within_calls) where
    below : (a b : ℕ) → 1 ≤ a → a ≤ b → a - 1 < b
    below a b f g = omega (arith, f, g)

    go : (calls : List CallState) (k : ℕ) → k < length calls → (state : CallState) × (slice_get calls k ≡ Some state)
    go [] k lt = absurd (omega (arith, lt))
    go (state ∷ calls) zero lt = (state, refl)
    go (state ∷ calls) (suc k) lt = go calls k (omega (arith, lt))

  hadnt : there_before.0.made ≡ false
  hadnt =
      hadnt_made_in first p.calls number positive there_before.0 there_before.0 there_before.1 (all_each _ (λ x. x ≢ own) book.made (λ x h. h.0) no_others)

  module _ (reply : NfsReply) (g : IsGiven p device number before reply r.call) (bound : Bindings) (after : Tree) (step : TreeStep)
      (takes : TakesStep head.profile (may_make asked) p.binds before own asked (outcomes.Received reply) bound after step) where
    abbrev placed_step : Placed
    placed_step = step_of number asked reply

    abbrev bytes : List ℕ
    bytes = journal_record number r.message (reply_message r.call.xid reply)

    abbrev pub new_device : Device
    new_device = with_record (is_recorded placed_step) bytes device

    abbrev pub last : PlacedCall
    last = record { number = number; outcome = outcomes.Received reply; records = length new_device.records }

    abbrev pub new_parts : Parts
    new_parts =
        record p {
          placed = p.placed ++ last ∷ [];
          calls = slice_set p.calls (number - 1) (record { place = Some (length p.placed); made = step.made });
          binds = bound;
          tree = Some after;
          undos = if is_recorded placed_step then p.undos ++ step.undo ∷ [] else p.undos;
        }

    abbrev new_book : Book
    new_book = book_with new_parts new_device

    -- the object is there where it was made
    flag : step.made ≡ is_some (entry_of after own)
    flag = takes.made ∙ go (may_make asked) refl takes.next where
      go : (makes_one : Bool) → may_make asked ≡ makes_one → under head.profile (bound_if makes_one own p.binds) before own asked (outcomes.Received reply) ≡ Some after → (makes_one && is_some (entry_of after own)) ≡ is_some (entry_of after own)
      go true makes next = refl
      go false makes next = sym (ap is_some (none_made p.binds before after own asked reply makes is_absent (comes_out_plain head.profile p.binds before after own asked (outcomes.Received reply) next)))

    made_so : (b : Bool) → step.made ≡ b → made_in first (slice_set p.calls (number - 1) (record { place = Some (length p.placed); made = step.made })) ≡ (if b then with_object own book.made else book.made)
    made_so true is = made_more_in first p.calls number positive there_before.0 (record { place = Some (length p.placed); made = step.made }) there_before.1 hadnt is
    made_so false is = made_same_in first p.calls number positive there_before.0 (record { place = Some (length p.placed); made = step.made }) there_before.1 (hadnt ∙ sym is)

    made_is : new_book.made ≡ with_made own after book.made
    made_is = made_so (is_some (entry_of after own)) flag

    placed_is : new_book.placed ≡ book.placed ++ placed_step ∷ []
    placed_is = map-append (placed_in p.known.calls) p.placed (last ∷ [])

    next_is : next_by (setting_made head (with_made own after book.made)) before number asked (outcomes.Received reply) ≡ Some after
    next_is = step_made head.profile p.binds book.made r.tied.bound own r.lt no_others before is_absent asked reply (may_make asked) after refl takes.next (is_some (entry_of after own)) refl

    one_message : {l : ℕ} {m n : List ℕ} → Some (owns.Call l m) ≡ Some (owns.Call l n) → m ≡ n
    one_message e = cc

    -- its message answers the call's
    answers_so : IsAnswerTo r.message (reply_message r.call.xid reply) reply
    answers_so =
        let sent : HasSent book.history r.call = has_sent book.history number r.call holds.genuine.is_history r.of_now.recorded in
        let right = right_reply_by (setting_made head (with_made own after book.made)) before after number asked reply next_is in
        subst (λ (m : List ℕ). IsAnswerTo m (reply_message r.call.xid reply) reply) (one_message (sym sent.sent ∙ r.sent))
        (answers_it book.history r.call asked reply (reply_message r.call.xid reply) sent r.judged right g.said.0 g.said.1)

    pub placed_so : Places book number reply new_book
    placed_so = record {
      running = ap condition_of r.running;
      numbered = r.lt;
      recorded = r.call;
      call = asked;
      message = r.message;
      of_now = r.of_now;
      judged = r.judged;
      sent = r.sent;
      unplaced = r.unplaced;
      before = before;
      after = after;
      stood = stood_book;
      next = next_is;
      served = given p.binds book.made r.tied.bound own before is_absent asked reply (may_make asked) after refl
          (comes_out_plain head.profile (bound_if (may_make asked) own p.binds) before after own asked (outcomes.Received reply) takes.next) g.gives;
      verifier = g.verifier;
      answers = answers_so;
      within = g.within;
      done = λ i. record new_book { placed = placed_is i; made = made_is i };
    }

    reached : IsReached new_book
    reached = reach_more book new_book r.tied.reached (places number reply placed_so)

    holds_then : IsInvariant new_book
    holds_then = reached_holds new_book reached

    counted_is : last.records ≡ p.kept + records_in book.placed + records_in (placed_step ∷ [])
    counted_is =
        sum (length new_device.records) (records_kept book) (records_in new_book.placed) (records_in book.placed) (records_in (placed_step ∷ [])) p.kept holds_then.records
        (ap records_in placed_is ∙ records_append book.placed (placed_step ∷ [])) r.tied.kept where
          sum : (n k all old one kept : ℕ) → n ≡ k + all → all ≡ old + one → kept ≡ k → n ≡ kept + old + one
          sum n k all old one kept e f h = omega (arith, e, f, h)

    names_are : (handle : List ℕ) → object_of bound handle ≡ object_of (bindings new_book) handle
    names_are handle = takes.names handle ∙ go step.made refl where
      go : (b : Bool) → step.made ≡ b → object_of (bound_if b own p.binds) handle ≡ object_of (bindings new_book) handle
      go true is = own_alike own book.made r.lt no_others p.binds r.tied.bound handle ∙ ap (λ (made : List ℕ). object_of (bindings_made made) handle) (sym (made_so true is))
      go false is = r.tied.bound handle ∙ ap (λ (made : List ℕ). object_of (bindings_made made) handle) (sym (made_so false is))

    -- runs ahead of the call are as they were
    runs_ahead : (steps : List Placed) → AreApart number steps → state_after (next_by (setting new_book)) (start_tree head.start) steps ≡ state_after (next_by (setting book)) (start_tree head.start) steps
    runs_ahead steps apart =
        ap (λ (made : List ℕ). state_after (next_by (setting_made head made)) (start_tree head.start) steps) made_is ∙ same_runs (is_some (entry_of after own)) steps apart

    tree_is : tree_of new_book ≡ Some after
    tree_is =
        let steps = kept_steps book.over ++ book.placed in
        let next = next_by (setting new_book) in
        let stood : state_after next (start_tree head.start) steps ≡ Some before = runs_ahead steps are_apart ∙ stood_book in
        let so : next before number asked (outcomes.Received reply) ≡ Some after =
        ap (λ (made : List ℕ). next_by (setting_made head made) before number asked (outcomes.Received reply)) made_is ∙ next_is in
        ap (λ (xs : List Placed). state_after next (start_tree head.start) (kept_steps book.over ++ xs)) placed_is
        ∙ ap (state_after next (start_tree head.start)) (sym (append_assoc (kept_steps book.over) book.placed (placed_step ∷ [])))
        ∙ one_more next (start_tree head.start) before after steps placed_step stood so

    -- a crash that loses the call keeps what it would have kept
    behind_same : (k : ℕ) → k - records_kept book ≤ records_in book.placed → tree_behind new_book k ≡ tree_behind book k
    behind_same k le =
        let c = k - records_kept book in
        let front = take (front_with c book.placed) book.placed in
        let apart : AreApart number (kept_steps book.over ++ front) =
        all_append (λ (s : Placed). s.number ≢ number) (kept_steps book.over) front (kept_apart number book.over (apart_eras book holds number r.call r.of_now.recorded r.of_now.era r.unplaced))
        (apart_front number (front_with c book.placed) book.placed r.unplaced) in
        ap (λ (xs : List Placed). state_after (next_by (setting new_book)) (start_tree head.start) (kept_steps book.over ++ take (front_with c xs) xs)) placed_is
        ∙ ap (λ (xs : List Placed). state_after (next_by (setting new_book)) (start_tree head.start) (kept_steps book.over ++ xs)) (front_same c book.placed placed_step le)
        ∙ runs_ahead (kept_steps book.over ++ front) apart

    few : (gone : ℕ) → length device.records - gone - records_kept book ≤ records_in book.placed
    few gone = omega (arith, holds.records)

    some_is : {a b : Tree} → Some a ≡ Some b → a ≡ b
    some_is e = cc

    undone_by : (b : Bool) → is_recorded placed_step ≡ b → (earlier later : List Undo) (back : Tree) → (if b then p.undos ++ step.undo ∷ [] else p.undos) ≡ earlier ++ later
        → tree_behind new_book (length (with_record b bytes device).records - length later) ≡ Some back → UndoesAll TakesBack later after back
    undone_by false is earlier later back parts behind =
        let same = unrecorded_leaves_by (setting_made head (with_made own after book.made)) before after number asked reply next_is is in
        subst (λ (tree : Tree). UndoesAll TakesBack later tree back) (sym same)
        (r.tied.undone earlier later before back parts r.stood (sym (behind_same (length device.records - length later) (few (length later))) ∙ behind))
    undone_by true is earlier later back parts behind = go (last_part p.undos step.undo earlier later parts) where
      longer : length (device.records ++ bytes ∷ []) ≡ length device.records + 1
      longer = length-append device.records (bytes ∷ [])

      all_gone : (n m : ℕ) → n ≡ m → m - 0 ≡ n
      all_gone n m e = omega (arith, e)

      left : (front : List Undo) → later ≡ front ++ step.undo ∷ [] → length (device.records ++ bytes ∷ []) - length later ≡ length device.records - length front
      left front e = minus (length device.records) (length (device.records ++ bytes ∷ [])) (length front) (length later) longer (ap length e ∙ length-append front (step.undo ∷ [])) where
        minus : (n m a b : ℕ) → m ≡ n + 1 → b ≡ a + 1 → m - b ≡ n - a
        minus n m a b f h = omega (arith, f, h)

      go : (later ≡ []) ⊎ ((front : List Undo) × (p.undos ≡ earlier ++ front) × (later ≡ front ++ step.undo ∷ [])) → UndoesAll TakesBack later after back
      go (inl none) =
          let full : tree_behind new_book (length (device.records ++ bytes ∷ []) - length later) ≡ Some after =
          ap (λ (n : ℕ). tree_behind new_book n) (ap (λ (us : List Undo). length (device.records ++ bytes ∷ []) - length us) none
          ∙ all_gone (length new_device.records) (length (device.records ++ bytes ∷ [])) (ap (λ (b : Bool). length (with_record b bytes device).records) is))
          ∙ behind_all new_book after holds_then tree_is in
          subst (λ (us : List Undo). UndoesAll TakesBack us after back) (sym none) (some_is (sym full ∙ behind))
      go (inr parts) =
          let ahead = r.tied.undone earlier parts.0 before back parts.1 r.stood
          (sym (behind_same (length device.records - length parts.0) (few (length parts.0))) ∙ ap (tree_behind new_book) (sym (left parts.0 parts.2)) ∙ behind) in
          subst (λ (us : List Undo). UndoesAll TakesBack us after back) (sym parts.2) (one_more_undone TakesBack parts.0 step.undo after before back ahead takes.back)

    undos_by : (b : Bool) → length (if b then p.undos ++ step.undo ∷ [] else p.undos) + (with_record b bytes device).mark ≡ length (with_record b bytes device).records
    undos_by true =
        both (length p.undos) device.mark (length device.records) (length (p.undos ++ step.undo ∷ [])) (length (device.records ++ bytes ∷ [])) (r.tied.undos (subst IsSome (sym r.stood) refl))
        (length-append p.undos (step.undo ∷ [])) (length-append device.records (bytes ∷ [])) where
          both : (u m n u' n' : ℕ) → u + m ≡ n → u' ≡ u + 1 → n' ≡ n + 1 → u' + m ≡ n'
          both u m n u' n' e f h = omega (arith, e, f, h)
    undos_by false = r.tied.undos (subst IsSome (sym r.stood) refl)

    pub placed_tied : Tied new_parts new_device
    placed_tied = record {
      reached = reached;
      kept = r.tied.kept;
      counted = counted_more p.kept p.known.calls p.placed last r.tied.counted counted_is;
      placed = record { count = more.count; there = more.there; has = more.has };
      short = r.tied.short;
      bound = names_are;
      tree = tree_is;
      stands = λ running. refl;
      undos = λ there. undos_by (is_recorded placed_step);
      undone = λ earlier later one back parts there behind. subst (λ (tree : Tree). UndoesAll TakesBack later tree back) (some_is there) (undone_by (is_recorded placed_step) refl earlier later back parts behind);
    } where
      more : HavePlaces (placing p number last step.made r.tied.placed refl positive within_calls r.unplaced (now_asked p device r.tied))
      more = places_more p number last step.made r.tied.placed refl positive within_calls r.unplaced (now_asked p device r.tied)
