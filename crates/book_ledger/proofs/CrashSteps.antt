-- the end of an era: what is kept of it, and the tree that the next one begins with
use Rattle.tree_starts.specs.Start.{object_made}
use Rattle.file_tree.specs.StartTree.{start_tree}
use Rattle.std.proofs.Common.{◌≡◌, ℕ, zero, suc, ◌+◌, ◌-◌, ◌<◌, ◌≤◌, Bool, true, false, cond, List, [], ◌∷◌, ◌++◌, length, map, take, drop, Option, Some, None, refl, sym, ap, ◌∙◌, subst, arith, min}
use Rattle.std.specs.Prelude.{IsSome, nat_le, if◌then◌else◌, ◌==◌, position, slice_get}
use Rattle.std.specs.Option.{option_map_or}
use Rattle.std.specs.List.{AllByRecursion, position_from}
use Rattle.std.proofs.lemmas.Bool.{leb-true, leb-false}
use Rattle.std.proofs.lemmas.List.{append-nil, map-append, length-map, length-drop, length-take, take-map, take_all, take-append-drop}
use Rattle.std.proofs.lemmas.Iterator.Adapters.{position_from-zero}
use Rattle.history_file.specs.declared.event.Event.TheVariants as owns
use Rattle.history_file.specs.Event.{Event}
use Rattle.history_file.specs.Event.Event.{call, reply, close, crash}
use Rattle.history_file.specs.Owning.{happened, all_happened}
use Rattle.nfs3_types.specs.declared.calls.NfsCall.{NfsCall}
use Rattle.nfs3_types.specs.declared.replies.Outcome.{Outcome}
use Rattle.nfs_history.specs.declared.recorded.RecordedCall.{RecordedCall}
use Rattle.nfs_history.specs.Calls.{CallEvent, calls_from, calls_of, eras_from}
use Rattle.nfs_history.specs.HistoryValue.{HistoryValue}
use Rattle.nfs_history.specs.History.{AreRecorded, AreCallsOf, IsHistory}
use Rattle.nfs_history.specs.Appending.{with_event}
use Rattle.nfs_history.specs.Precedence.{call_at}
use Rattle.nfs_history.proofs.OneHistory.{known_once}
use Rattle.replay_law.specs.Run.{state_after, kept_steps}
use Rattle.replay_law.specs.Undone.{UndoesAll}
use Rattle.tree_nodes.specs.declared.undo.Undo.{Undo}
use Rattle.tree_nodes.specs.Tree.{Tree}
use Rattle.tree_nodes.specs.Undo.{TakesBack}
use Rattle.tree_nodes.proofs.Chains.{value_of}
use Rattle.journal.specs.Device.{Device, recovered}
use Rattle.book_laws.specs.Placing.{Placed, is_recorded, front_with}
use Rattle.book_laws.specs.Book.{Book, tree_of, records_kept, Setting, next_by, setting, tree_at_first}
use Rattle.book_laws.specs.Book.Condition.{dead as is_dead}
use Rattle.book_laws.specs.Steps.{Crashes}
use Rattle.book_laws.specs.Steps.Steps.{crashes}
use Rattle.book_laws.proofs.Invariant.{Over, AreKnown, AllKnown, AllRun, IsCutSafely, IsInvariant}
use Rattle.book_laws.proofs.Growing.{IsGenuine, genuine_crash}
use Rattle.book_laws.proofs.Bound.{tree_stands, front_runs}
use Rattle.book_laws.proofs.Lists.{all_append}
use Rattle.replay_law.proofs.Crashes.{kept_one_more}
use Rattle.book_laws.proofs.Pushed.{SameNames, same_under}
use Rattle.book_ledger.specs.declared.placed.PlacedCall.{PlacedCall}
use Rattle.book_ledger.specs.declared.placed.EraOver.{EraOver}
use Rattle.book_ledger.specs.declared.placed.Condition as code
use Rattle.book_ledger.specs.declared.placed.Condition.TheVariants as codes
use Rattle.book_ledger.specs.declared.ledger.Ledger.{Ledger}
use Rattle.book_ledger.specs.Inside.{setting_in, AreAsked, placed_in, era_in, condition_of, book_of, IsReached, AreCounted, tree_behind, IsShort, AreTied, Goes}
use Rattle.book_ledger.specs.Undoing.{IsSoundEra, steps_kept, CanRunAgain, LeadBack, Loses, GoesDown, IsReady, Restarts}
use Rattle.book_ledger.proofs.Reaching.{reached_holds, reach_more}
use Rattle.book_ledger.proofs.Parts.{Parts, parts_of, book_with, Tied, to_parts, from_parts, same_parts, down_tied, treeless}

-- ---- how many calls are kept

front_none : (n : ℕ) → front_with n [] ≡ 0
front_none zero = refl
front_none (suc n) = refl

pub front_few : (n : ℕ) (steps : List Placed) → front_with n steps ≤ length steps
front_few zero steps = omega arith
front_few (suc n) [] = omega arith
front_few (suc n) (step ∷ steps) = go (if is_recorded step then n else suc n) (front_few (if is_recorded step then n else suc n) steps) where
  go : (m : ℕ) → front_with m steps ≤ length steps → suc (front_with m steps) ≤ suc (length steps)
  go m le = omega (arith, le)

abbrev pub front_of : Option ℕ → ℕ → ℕ
front_of None n = n
front_of (Some place) n = place + 1

-- one call further, whether it is recorded or not
one_front : (keep ahead i m records n : ℕ) (steps : List Placed) (found : Option ℕ) → keep - ahead ≡ suc m → ahead < keep → (r : Bool) → records ≡ ahead + (if r then 1 else 0) → (b : Bool)
    → nat_le keep records ≡ b → (records < keep → front_of found (i + 1 + n) ≡ i + 1 + front_with (keep - records) steps)
    → front_of (cond b (Some i) found) (i + suc n) ≡ i + suc (front_with (if r then m else suc m) steps)
one_front keep ahead i m records n steps found some lt true counted true at rest =
    let le = leb-true keep records at in
    let none : m ≡ 0 = omega (arith, some, lt, counted, le) in
    let last : front_with m steps ≡ 0 = ap (λ k. front_with k steps) none in
    omega (arith, last)
one_front keep ahead i m records n steps found some lt true counted false at rest =
    let less = leb-false keep records at in
    let is : keep - records ≡ m = omega (arith, some, lt, counted, less) in
    let ahead_of : i + suc n ≡ i + 1 + n = omega arith in
    let further : i + 1 + front_with (keep - records) steps ≡ i + suc (front_with (keep - records) steps) = omega arith in
    ap (front_of found) ahead_of ∙ rest less ∙ further ∙ ap (λ k. i + suc (front_with k steps)) is
one_front keep ahead i m records n steps found some lt false counted true at rest =
    let le = leb-true keep records at in
    absurd (omega (arith, lt, counted, le))
one_front keep ahead i m records n steps found some lt false counted false at rest =
    let less = leb-false keep records at in
    let is : keep - records ≡ suc m = omega (arith, some, lt, counted, less) in
    let ahead_of : i + suc n ≡ i + 1 + n = omega arith in
    let further : i + 1 + front_with (keep - records) steps ≡ i + suc (front_with (keep - records) steps) = omega arith in
    ap (front_of found) ahead_of ∙ rest less ∙ further ∙ ap (λ k. i + suc (front_with k steps)) is

module _ (keep : ℕ) (recorded : List RecordedCall) where
  abbrev pub is_behind : PlacedCall → Bool
  is_behind placed = nat_le keep placed.records

  pub front_at : (ahead i : ℕ) (placed : List PlacedCall) → ahead < keep → AreCounted ahead recorded placed
      → front_of (position_from is_behind i placed) (i + length placed) ≡ i + front_with (keep - ahead) (map (placed_in recorded) placed)
  front_at ahead i [] lt counted = ap (λ n. i + n) (sym (front_none (keep - ahead)))
  front_at ahead i (x ∷ placed) lt counted =
      let some : keep - ahead ≡ suc (keep - ahead - 1) = omega (arith, lt) in
      one_front keep ahead i (keep - ahead - 1) x.records (length placed) (map (placed_in recorded) placed) (position_from is_behind (i + 1) placed) some lt (is_recorded (placed_in recorded x)) counted.0
      (nat_le keep x.records) refl (λ less. front_at x.records (i + 1) placed less counted.1)
      ∙ sym (ap (λ n. i + front_with n (placed_in recorded x ∷ map (placed_in recorded) placed)) some)

pub front_is : (ledger : Ledger) (device : Device) (keep : ℕ) (found : Option ℕ) → AreTied ledger device → ledger.kept < keep → found ≡ position (λ (call : PlacedCall). nat_le keep call.records) ledger.placed.items
    → front_of found (length ledger.placed.items) ≡ front_with (keep - records_kept (book_of ledger device)) (book_of ledger device).placed
front_is ledger device keep found t lt is =
    let placed = ledger.placed.items in
    let calls = ledger.history.known.calls in
    let none : length placed ≡ 0 + length placed = omega arith in
    let nothing : 0 + front_with (keep - ledger.kept) (map (placed_in calls) placed) ≡ front_with (keep - ledger.kept) (map (placed_in calls) placed) = omega arith in
    ap (λ o. front_of o (length placed)) (is ∙ position_from-zero (is_behind keep calls) placed) ∙ ap (front_of (position_from (is_behind keep calls) 0 placed)) none
    ∙ front_at keep calls ledger.kept 0 placed lt t.counted ∙ nothing ∙ ap (λ n. front_with (keep - n) (map (placed_in calls) placed)) t.kept

-- where all that are wanted were kept before, none of the era is
pub front_zero : (ledger : Ledger) (device : Device) (keep : ℕ) → AreTied ledger device → keep ≤ ledger.kept → 0 ≡ front_with (keep - records_kept (book_of ledger device)) (book_of ledger device).placed
front_zero ledger device keep t le =
    let none : keep - records_kept (book_of ledger device) ≡ 0 = omega (arith, le, t.kept) in
    sym (ap (λ n. front_with n (book_of ledger device).placed) none)

-- ---- calls that are run again

asked_all : (recorded : List RecordedCall) (e : ℕ) (placed : List PlacedCall) → AreKnown recorded e (map (placed_in recorded) placed) → AreAsked recorded placed
asked_all recorded e [] known = tt
asked_all recorded e (x ∷ placed) known = ((known.0.call, (placed_in recorded x).call, known.0.recorded, known.0.judged), asked_all recorded e placed known.1)

kept_few : (kept count n m : ℕ) → kept ≡ count → count ≤ n → n ≡ m → kept ≤ m
kept_few kept count n m e le f = omega (arith, e, le, f)

sound_all : (recorded : List RecordedCall) (e : ℕ) (over : List EraOver) (placed : List Placed) → AllKnown recorded e (map (era_in recorded) over) placed
    → AllByRecursion (IsCutSafely recorded) (map (era_in recorded) over) → AllByRecursion (IsSoundEra recorded) over
sound_all recorded e [] placed known cuts = tt
sound_all recorded e (era ∷ over) placed known cuts =
    let steps = map (placed_in recorded) era.placed.items in (
      (
        kept_few era.kept (front_with cuts.0.count steps) (length steps) (length era.placed.items) cuts.0.front (front_few cuts.0.count steps) (length-map era.placed.items (placed_in recorded)),
        asked_all recorded e era.placed.items known.0,
      ),
      sound_all recorded (e + 1) over placed known.1 cuts.1,
    )

known_now : (recorded : List RecordedCall) (e : ℕ) (over : List Over) (placed : List Placed) → AllKnown recorded e over placed → (now : ℕ) × AreKnown recorded now placed
known_now recorded e [] placed known = (e, known)
known_now recorded e (first ∷ over) placed known = known_now recorded (e + 1) over placed known.1

front_stands : (s : Setting) (n : ℕ) (over : List Over) (placed : List Placed) (tree : Tree) → AllRun s tree over placed → IsSome (state_after (next_by s) tree (kept_steps over ++ take n placed))
front_stands s n over placed tree runs = tree_stands s over (take n placed) tree (front_all over tree runs) where
  front_all : (over : List Over) (tree : Tree) → AllRun s tree over placed → AllRun s tree over (take n placed)
  front_all [] tree runs = subst IsSome (sym (front_runs s n placed tree runs).1) refl
  front_all (first ∷ over) tree runs = (runs.0, (runs.1.0, runs.1.1, front_all over runs.1.0 runs.1.2))

module _ (p : Parts) (device : Device) (t : Tied p device) where
  holds : IsInvariant (book_with p device)
  holds = reached_holds (book_with p device) t.reached

  pub same_names : SameNames p.binds (book_with p device).made
  same_names handle object = ap (λ (o : Option ℕ). option_map_or (λ named. named == object) o false) (t.bound handle)

  pub same_tree : next_by (record { profile = p.known.head.profile; first = length p.known.head.start; binds = p.binds }) ≡ next_by (setting (book_with p device))
  same_tree = λ i. λ tree n call outcome. same_under p.known.head.profile p.binds (book_with p device).made same_names i tree (object_made (length p.known.head.start) n) call outcome

  pub behind_stands : (n : ℕ) → IsSome (tree_of (record (book_with p device) { placed = take n (book_with p device).placed }))
  behind_stands n = front_stands (setting (book_with p device)) n (book_with p device).over (book_with p device).placed (start_tree p.known.head.start) holds.runs

pub now_asked : (p : Parts) (device : Device) → Tied p device → AreAsked p.known.calls p.placed
now_asked p device t =
    let now = known_now p.known.calls 1 (book_with p device).over (book_with p device).placed (holds p device t).known in
    asked_all p.known.calls now.0 p.placed now.1

pub behind_is : (ledger : Ledger) (device : Device) (count : ℕ) → AreTied ledger device
    → state_after (next_by (setting_in ledger)) (start_tree ledger.history.known.head.start) (steps_kept ledger count) ≡ tree_of (record (book_of ledger device) { placed = take count (book_of ledger device).placed })
behind_is ledger device count t =
    let book = book_of ledger device in
    ap (λ (next : Tree → ℕ → NfsCall → Outcome → Option Tree). state_after next (start_tree ledger.history.known.head.start) (steps_kept ledger count)) (same_tree (parts_of ledger) device (to_parts ledger device t))
    ∙ ap (λ (xs : List Placed). state_after (next_by (setting book)) (tree_at_first book) (kept_steps book.over ++ xs)) (sym (take-map (placed_in ledger.history.known.calls) count ledger.placed.items))

pub can_run_again : (ledger : Ledger) (device : Device) (count : ℕ) → AreTied ledger device → count ≤ length ledger.placed.items → CanRunAgain ledger count
can_run_again ledger device count t le =
    let p = to_parts ledger device t in
    let i = holds (parts_of ledger) device p in
    let calls = ledger.history.known.calls in
    let now = known_now calls 1 (map (era_in calls) ledger.over.items) (map (placed_in calls) ledger.placed.items) i.known in
    record {
      within = le;
      over = sound_all calls 1 ledger.over.items (map (placed_in calls) ledger.placed.items) i.known i.cuts;
      placed = asked_all calls now.0 ledger.placed.items now.1;
      runs = subst IsSome (sym (behind_is ledger device count t)) (behind_stands (parts_of ledger) device p count);
    }

-- all of them
pub all_behind_is : (ledger : Ledger) (device : Device) → AreTied ledger device → state_after (next_by (setting_in ledger)) (start_tree ledger.history.known.head.start) (steps_kept ledger (length ledger.placed.items)) ≡ tree_of (book_of ledger device)
all_behind_is ledger device t =
    let book = book_of ledger device in
    behind_is ledger device (length ledger.placed.items) t
    ∙ ap (λ (xs : List Placed). state_after (next_by (setting book)) (tree_at_first book) (kept_steps book.over ++ xs))
    (take_all (length ledger.placed.items) book.placed (at_most (length-map ledger.placed.items (placed_in ledger.history.known.calls)))) where
      at_most : {m n : ℕ} → m ≡ n → m ≤ n
      at_most e = omega (arith, e)

-- ---- steps that are taken back

-- there is a value to take back each record that is lost, and what they lead to
pub record CanGoBack (ledger : Ledger) (device : Device) (keep lost : ℕ) (tree : Tree) : Type 0 where
  pub there : lost ≤ length ledger.undos.items
  pub before : Tree
  pub behind : tree_behind (book_of ledger device) keep ≡ Some before
  pub back : LeadBack ledger.undos.items lost tree before

left_over : (n lost k : ℕ) → lost ≤ n → k ≡ n - (n - lost) → k ≡ lost
left_over n lost k le e = omega (arith, le, e)

kept_then : (keep lost k n : ℕ) → keep + lost ≡ n → k ≡ lost → n - k ≡ keep
kept_then keep lost k n e f = omega (arith, e, f)

pub can_go_back : (ledger : Ledger) (device : Device) (keep lost : ℕ) (tree : Tree) → AreTied ledger device → ledger.tree ≡ Some tree → Loses device keep lost → CanGoBack ledger device keep lost tree
can_go_back ledger device keep lost tree t is loses =
    let undos = ledger.undos.items in
    let each = t.undos (subst IsSome (sym is) refl) in
    let le : lost ≤ length undos = enough (length undos) device.mark (length device.records) each loses.0 loses.1 in
    let later = drop (length undos - lost) undos in
    let count : length later ≡ lost = left_over (length undos) lost (length later) le (length-drop (length undos - lost) undos) in
    let known = value_of (tree_behind (book_of ledger device) keep)
    (behind_stands (parts_of ledger) device (to_parts ledger device t) (front_with (keep - records_kept (book_of ledger device)) (book_of ledger device).placed)) in
    record {
      there = le;
      before = known.0;
      behind = known.1;
      back = t.undone (take (length undos - lost) undos) later tree known.0 (sym (take-append-drop (length undos - lost) undos)) is
          (ap (tree_behind (book_of ledger device)) (kept_then keep lost (length later) (length device.records) loses.1 count) ∙ known.1);
    } where
      enough : (n mark records : ℕ) → n + mark ≡ records → mark ≤ keep → keep + lost ≡ records → lost ≤ n
      enough n mark records e le f = omega (arith, e, le, f)

-- ---- the next era

-- no call is of a later era than the one now
eras_rise : (era : ℕ) (events : List Event) → era ≤ eras_from era events
eras_rise era [] = omega arith
eras_rise era (call lane message ∷ events) = eras_rise era events
eras_rise era (reply lane message ∷ events) = eras_rise era events
eras_rise era (close lane ∷ events) = eras_rise era events
eras_rise era (crash ∷ events) = later (eras_rise (era + 1) events) where
  later : {n : ℕ} → era + 1 ≤ n → era ≤ n
  later le = omega (arith, le)

eras_within : (i era : ℕ) (events : List Event) → AllByRecursion (λ (c : CallEvent). c.era ≤ eras_from era events) (calls_from i era events)
eras_within i era [] = tt
eras_within i era (call lane message ∷ events) = (eras_rise era events, eras_within (i + 1) era events)
eras_within i era (reply lane message ∷ events) = eras_within (i + 1) era events
eras_within i era (close lane ∷ events) = eras_within (i + 1) era events
eras_within i era (crash ∷ events) = eras_within (i + 1) (era + 1) events

era_low : (most : ℕ) (events : List CallEvent) (calls : List RecordedCall) (k : ℕ) (c : RecordedCall) → AreRecorded events calls → AllByRecursion (λ (e : CallEvent). e.era ≤ most) events
    → slice_get calls k ≡ Some c → c.era ≤ most
era_low most [] [] k c known low at = absurd (none at) where
  none : None ≡ Some c → ⊥
  none f = cc
era_low most [] (d ∷ calls) k c known low at = absurd known
era_low most (e ∷ events) [] k c known low at = absurd known
era_low most (e ∷ events) (d ∷ calls) zero c known low at = below d.era e.era (ap (λ (x : RecordedCall). x.era) (one at)) known.0.era low.0 where
  one : Some d ≡ Some c → d ≡ c
  one f = cc

  below : (a b : ℕ) → a ≡ c.era → a ≡ b → b ≤ most → c.era ≤ most
  below a b f g le = omega (arith, f, g, le)
era_low most (e ∷ events) (d ∷ calls) (suc k) c known low at = era_low most events calls k c known.1 low.1 at

pub call_era_low : (h : HistoryValue) (n : ℕ) (c : RecordedCall) → IsGenuine h → call_at h.known.calls n ≡ Some c → c.era ≤ h.known.eras
call_era_low h zero c g at = absurd (none at) where
  none : None ≡ Some c → ⊥
  none f = cc
call_era_low h (suc n) c g at =
    let known = g.is_history.known in
    let events = all_happened h.events in
    subst (λ (m : ℕ). c.era ≤ m) (sym known.eras) (era_low (eras_from 1 events) (calls_of events) h.known.calls n c known.calls (eras_within 1 1 events) at)

take_none : {X : Type 0} (n : ℕ) → take {A = X} n [] ≡ []
take_none zero = refl
take_none (suc n) = refl

pub history_crashed : (old new : HistoryValue) → IsGenuine (record old { spare = 0 }) → IsHistory (with_event old owns.Crash) new → new.known ≡ record old.known { eras = old.known.eras + 1 }
history_crashed old new g is =
    let crashed = genuine_crash (record old { spare = 0 }) g in
    let same : all_happened (old.events ++ owns.Crash ∷ []) ≡ all_happened old.events ++ crash ∷ [] = map-append happened old.events (owns.Crash ∷ []) in
    known_once (with_event old owns.Crash) new.known (record old.known { eras = old.known.eras + 1 }) is.known
    (subst (λ (events : List Event). AreCallsOf (record { head = old.known.head; events = events }) (record old.known { eras = old.known.eras + 1 })) same crashed.is_history.known)

pub alive_book : (c : code.Condition) → (c ≡ codes.Dead → ⊥) → condition_of c ≡ is_dead → ⊥
alive_book codes.Running alive e = cc
alive_book codes.Down alive e = cc
alive_book codes.Dead alive e = alive refl

module _ (p : Parts) (device : Device) (keep : ℕ) (tree : Tree) (era : EraOver) (t : Tied p device) (alive : condition_of p.condition ≡ is_dead → ⊥) (least : device.mark ≤ keep)
    (most : keep ≤ length device.records) (stands : tree_behind (book_with p device) keep ≡ Some tree) (whole : era.placed.items ≡ p.placed)
    (cut : era.kept ≡ front_with (keep - records_kept (book_with p device)) (book_with p device).placed) where
  abbrev pub restarted : Parts
  restarted =
      record p {
        known = record p.known { eras = p.known.eras + 1 };
        events = p.events ++ owns.Crash ∷ [];
        over = p.over ++ era ∷ [];
        placed = [];
        tree = Some tree;
        undos = [];
        kept = keep;
        condition = codes.Running;
      }

  abbrev book : Book
  book = book_with p device

  abbrev after : Book
  after = book_with restarted (recovered device keep)

  abbrev ended : Over
  ended = record { steps = book.placed; kept = front_with (keep - records_kept book) book.placed }

  over_is : after.over ≡ book.over ++ ended ∷ []
  over_is =
      map-append (era_in p.known.calls) p.over (era ∷ [])
      ∙ ap (λ (e : Over). book.over ++ e ∷ []) (λ i. record { steps = map (placed_in p.known.calls) (whole i); kept = cut i })

  pub crashed : Crashes book keep after
  crashed = record { alive = alive; least = least; most = most; done = λ i. record after { over = over_is i } }

  reached : IsReached after
  reached = reach_more book after t.reached (crashes keep crashed)

  kept_is : keep ≡ records_kept after
  kept_is =
      let now = (reached_holds after reached).records in
      let count = length-take keep device.records in
      omega (arith, now, count, most)

  steps_are : kept_steps after.over ++ [] ≡ kept_steps book.over ++ take ended.kept ended.steps
  steps_are = append-nil (kept_steps after.over) ∙ ap kept_steps over_is ∙ kept_one_more book.over ended

  tree_is : tree_of after ≡ Some tree
  tree_is = ap (state_after (next_by (setting book)) (tree_at_first book)) steps_are ∙ stands

  low : (n : ℕ) (c : RecordedCall) → call_at p.known.calls n ≡ Some c → c.era ≡ p.known.eras + 1 → ⊥
  low n c at is = high c.era p.known.eras (call_era_low book.history n c (reached_holds book t.reached).genuine at) is where
    high : (a b : ℕ) → a ≤ b → a ≡ b + 1 → ⊥
    high a b le e = omega (arith, le, e)

  behind_none : (k : ℕ) → tree_behind after k ≡ tree_of after
  behind_none k = ap (λ (xs : List Placed). state_after (next_by (setting book)) (tree_at_first book) (kept_steps after.over ++ xs)) (take_none (front_with (k - records_kept after) []))

  undone : (earlier later : List Undo) (one before : Tree) → [] ≡ earlier ++ later → Some tree ≡ Some one → tree_behind after (length (take keep device.records) - length later) ≡ Some before
      → UndoesAll TakesBack later one before
  undone [] [] one before parts there behind = sym (same there) ∙ same (sym tree_is ∙ sym (behind_none (length (take keep device.records) - 0)) ∙ behind) where
    same : {a b : Tree} → Some a ≡ Some b → a ≡ b
    same f = cc
  undone [] (x ∷ later) one before parts there behind = absurd (cc)
  undone (x ∷ earlier) later one before parts there behind = absurd (cc)

  pub restarted_tied : Tied restarted (recovered device keep)
  restarted_tied = record {
    reached = reached;
    kept = kept_is;
    counted = tt;
    placed = record {
      count = t.placed.count;
      there = λ number place call state at now found has. absurd (low number call at now);
      has = λ place placed found. absurd (nothing found);
    };
    short = all_append IsShort p.events (owns.Crash ∷ []) t.short (tt, tt);
    bound = t.bound;
    tree = tree_is;
    stands = λ running. refl;
    undos = λ there. all_kept (length-take keep device.records);
    undone = undone;
  } where
    nothing : {x : PlacedCall} → None ≡ Some x → ⊥
    nothing f = cc

    all_kept : {n : ℕ} → n ≡ min keep (length device.records) → 0 + keep ≡ n
    all_kept f = omega (arith, f, most)

pub restarts : (old new : Ledger) (keep : ℕ) (tree : Tree) (era : EraOver) → (old.condition ≡ codes.Dead → ⊥) → era.placed.items ≡ old.placed.items
    → ((device : Device) → AreTied old device → era.kept ≡ front_with (keep - records_kept (book_of old device)) (book_of old device).placed)
    → IsHistory (with_event old.history owns.Crash) new.history → new.history.events ≡ old.history.events ++ owns.Crash ∷ [] → new.over.items ≡ old.over.items ++ era ∷ [] → new.placed.items ≡ []
    → new.calls.items ≡ old.calls.items → new.binds ≡ old.binds → new.tree ≡ Some tree → new.undos.items ≡ [] → new.kept ≡ keep → new.condition ≡ codes.Running → Restarts old keep tree new
restarts old new keep tree era alive whole cut history events over placed calls binds stands_now undos kept condition =
    λ device t least most stands.
    let p = parts_of old in
    let tied = to_parts old device t in
    let gone = alive_book old.condition alive in
    let counted = cut device t in
    let next = restarted p device keep tree era tied gone least most stands whole counted in
    let same = same_parts (parts_of new) next (history_crashed old.history new.history (reached_holds (book_of old device) t.reached).genuine history) events over placed calls binds stands_now undos kept condition in (
      from_parts new (recovered device keep) (subst (λ (q : Parts). Tied q (recovered device keep)) (sym same) (restarted_tied p device keep tree era tied gone least most stands whole counted)),
      subst (λ (q : Parts). Crashes (book_of old device) keep (book_with q (recovered device keep))) (sym same) (crashed p device keep tree era tied gone least most stands whole counted),
    )

-- ---- a book that goes down ahead of a crash

pub goes_downed : (old new : Ledger) → (old.condition ≡ codes.Dead → ⊥) → new.history.known ≡ old.history.known → new.history.events ≡ old.history.events → new.over.items ≡ old.over.items
    → new.placed.items ≡ old.placed.items → new.calls.items ≡ old.calls.items → new.binds ≡ old.binds → new.tree ≡ old.tree → new.undos.items ≡ old.undos.items → new.kept ≡ old.kept
    → new.condition ≡ codes.Down → Goes GoesDown old new
goes_downed old new alive known events over placed calls binds tree undos kept condition =
    λ device t.
    let same : parts_of new ≡ record (parts_of old) { condition = codes.Down } =
    same_parts (parts_of new) (record (parts_of old) { condition = codes.Down }) known events over placed calls binds tree undos kept condition in
    (from_parts new device (subst (λ (q : Parts). Tied q device) (sym same) (down_tied (parts_of old) device alive (to_parts old device t))), ap (λ (q : Parts). book_with q device) same)

-- and whose tree is taken
pub goes_treeless : (old new : Ledger) → (old.condition ≡ codes.Dead → ⊥) → new.history.known ≡ old.history.known → new.history.events ≡ old.history.events → new.over.items ≡ old.over.items
    → new.placed.items ≡ old.placed.items → new.calls.items ≡ old.calls.items → new.binds ≡ old.binds → new.tree ≡ None → new.kept ≡ old.kept → new.condition ≡ codes.Down → Goes GoesDown old new
goes_treeless old new alive known events over placed calls binds tree kept condition =
    λ device t.
    let downed : Parts = record (parts_of old) { condition = codes.Down } in
    let gone : Parts = record downed { binds = old.binds; tree = None; undos = new.undos.items } in
    let same : parts_of new ≡ gone = same_parts (parts_of new) gone known events over placed calls binds tree refl kept condition in
    let tied : Tied gone device = treeless downed device old.binds new.undos.items (λ handle. refl) (down_tied (parts_of old) device alive (to_parts old device t)) refl in
    (from_parts new device (subst (λ (q : Parts). Tied q device) (sym same) tied), ap (λ (q : Parts). book_with q device) same)

-- the tree that was worked out anew is the one behind the crash
pub ready_anew : (old new : Ledger) (keep lost count : ℕ) (tree : Tree) → Goes GoesDown old new
    → ((device : Device) → AreTied new device → count ≡ front_with (keep - records_kept (book_of new device)) (book_of new device).placed)
    → state_after (next_by (setting_in new)) (start_tree new.history.known.head.start) (steps_kept new count) ≡ Some tree → IsReady old keep lost tree
ready_anew old new keep lost count tree goes counted runs =
    λ device t loses.
    let g = goes device t in
    sym (ap (λ (b : Book). tree_behind b keep) g.1)
    ∙ ap (λ (n : ℕ). tree_of (record (book_of new device) { placed = take n (book_of new device).placed })) (sym (counted device g.0))
    ∙ sym (behind_is new device count g.0) ∙ runs

pub can_run_front : (new : Ledger) (device : Device) (keep count : ℕ) → AreTied new device
    → ((device : Device) → AreTied new device → count ≡ front_with (keep - records_kept (book_of new device)) (book_of new device).placed) → CanRunAgain new count
can_run_front new device keep count t counted =
    can_run_again new device count t
    (kept_few count (front_with (keep - records_kept (book_of new device)) (book_of new device).placed) (length (book_of new device).placed) (length new.placed.items) (counted device t)
    (front_few (keep - records_kept (book_of new device)) (book_of new device).placed) (length-map new.placed.items (placed_in new.history.known.calls)))

-- and so is the one that the lost steps lead back to
pub ready_back : (old : Ledger) (keep lost : ℕ) (tree back : Tree) → old.tree ≡ Some tree → ((before : Tree) → LeadBack old.undos.items lost tree before → back ≡ before) → IsReady old keep lost back
ready_back old keep lost tree back is leads =
    λ device t loses.
    let b = can_go_back old device keep lost tree t is loses in
    b.behind ∙ ap Some (sym (leads b.before b.back))
