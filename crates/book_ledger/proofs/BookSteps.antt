-- a book's crash and the place of a call, over its parts and its device
use Rattle.std.proofs.Common.{◌≡◌, ◌≢◌, ℕ, ◌+◌, ◌-◌, ◌<◌, ◌≤◌, ◌^◌, Bool, true, false, List, [], ◌∷◌, ◌++◌, length, Option, Some, None, Err, refl, sym, ap, ◌∙◌, subst, arith}
use Rattle.std.specs.Prelude.{is_some}
use Rattle.std.specs.declared.vec.Vec.{Vec}
use Rattle.std.specs.declared.alloc.Global.{Global}
use Rattle.nfs3_types.specs.declared.replies.NfsReply.{NfsReply}
use Rattle.nfs3_types.specs.declared.replies.Outcome.{Outcome}
use Rattle.nfs3_types.specs.declared.replies.Outcome.TheVariants as outcomes
use Rattle.nfs_history.specs.HistoryValue.{HistoryValue}
use Rattle.tree_nodes.specs.Tree.{Tree}
use Rattle.tree_nodes.proofs.Chains.{value_of}
use Rattle.tree_handles.specs.Binding.{object_of}
use Rattle.journal.specs.Device.{Device, Leaves, recovered, with_fault}
use Rattle.journal.specs.declared.device.DevFault.{DevFault}
use Rattle.journal.specs.declared.device.DevFault.TheVariants as devices
use Rattle.replay_law.specs.declared.replay.StepFault.{StepFault}
use Rattle.replay_law.specs.declared.replay.StepFault.TheVariants as steps
use Rattle.book_laws.specs.Book.{Book, Condition, handle_of}
use Rattle.book_laws.specs.Book.Condition.{running as is_running, down as is_down, dead as is_dead}
use Rattle.book_laws.specs.Steps.{IsUnplaced, Places, Crashes, with_record, reply_message, journal_record}
use Rattle.book_ledger.specs.Recordable.{may_make}
use Rattle.book_ledger.specs.Refusals.{IsNow, PlaceStops, after_place, after_crash}
use Rattle.book_ledger.specs.declared.placed.Condition.TheVariants as codes
use Rattle.book_ledger.specs.declared.placing.TreeStep.{TreeStep}
use Rattle.book_ledger.specs.declared.ledger.Ledger.{Ledger}
use Rattle.book_ledger.specs.declared.fault.PlaceFault.{PlaceFault}
use Rattle.book_ledger.specs.declared.fault.PlaceFault.TheVariants as place
use Rattle.book_ledger.specs.declared.fault.CrashFault.TheVariants as crash
use Rattle.book_ledger.specs.JoinedFaults.{of_step}
use Rattle.book_ledger.specs.Inside.{object_in, IsAsked, asked_by, book_of, tree_behind, AreTied, Goes}
use Rattle.book_ledger.specs.Undoing.{GoesDown, IsReady, Restarts}
use Rattle.book_ledger.specs.PlaceSteps.{HoldsBytes, TakesStep, HasStepped, HasNoStep, HasStayed, IsNumbered, ShowsNow, MayGive, GivesAllowed, IsShortAnswer, IsSayable, IsEntry, HasPlaced, HasLost, IsSame, IsLeft, StopsWhere, entry_put}
use Rattle.book_ledger.proofs.Parts.{parts_of, to_parts, from_parts, failed_tied}
use Rattle.book_ledger.proofs.Reaching.{reached_asked}
use Rattle.book_ledger.proofs.NewPlace.{IsReadyFor, IsGiven, is_free, placed_so}
use Rattle.book_ledger.proofs.PlaceTurns.{runs_now, ready, same_tied, stayed_tied, lost_tied, new_place, device_then, recorded, same_tree_there, not_without_step, shows, gives, is_short}

not_up : codes.Down ≡ codes.Running → ⊥
not_up e = cc

-- ---- a crash

pub crash_done : (old prepared new : Ledger) (device after : Device) (keep : ℕ) (tree : Tree) → AreTied old device → (book_of old device).condition ≢ is_dead → device.mark ≤ keep → keep ≤ length device.records
    → Goes GoesDown old prepared → IsReady old keep (length device.records - keep) tree → Restarts prepared keep tree new → after ≡ recovered device keep
    → AreTied new after × Crashes (book_of old device) keep (book_of new after)
crash_done old prepared new device after keep tree t alive least most goes is_ready restarts same =
    let g = goes device t in
    let stands : tree_behind (book_of prepared device) keep ≡ Some tree = ap (λ (b : Book). tree_behind b keep) g.1 ∙ is_ready device t (least, lost keep (length device.records) most) in
    let r = restarts device g.0 least most stands in
    let c = subst (λ (b : Book). Crashes b keep (book_of new (recovered device keep))) g.1 r.1 in (
      subst (AreTied new) (sym same) r.0,
      subst (λ (d : Device). Crashes (book_of old device) keep (book_of new d)) (sym same) (record { alive = alive; least = least; most = most; done = c.done }),
    ) where
      lost : (k n : ℕ) → k ≤ n → k + (n - k) ≡ n
      lost k n le = omega (arith, le)

-- a crash for which memory is wanting
pub crash_unready : (old prepared new : Ledger) (device : Device) → AreTied old device → Goes GoesDown old prepared → Goes (λ b a. a ≡ record b { condition = is_dead }) prepared new
    → AreTied new device × (book_of new device ≡ after_crash (book_of old device) crash.NoMemory)
crash_unready old prepared new device t goes dies =
    let g = goes device t in
    let d = dies device g.0 in
    (d.0, d.1 ∙ ap (λ (b : Book). record b { condition = is_dead }) g.1)

-- one in which the device fails
pub crash_failed : (old prepared new : Ledger) (device after : Device) → AreTied old device → Goes GoesDown old prepared → prepared.condition ≡ codes.Down → Goes (λ b a. a ≡ record b { condition = is_dead }) prepared new
    → after ≡ with_fault device → AreTied new after × (book_of new after ≡ after_crash (book_of old device) crash.DeviceFault)
crash_failed old prepared new device after t goes stopped dies same =
    let g = goes device t in
    let f = from_parts prepared (with_fault device) (failed_tied (parts_of prepared) device (λ up. not_up (sym stopped ∙ up)) (to_parts prepared device g.0)) in
    let d = dies (with_fault device) f in (
      subst (AreTied new) (sym same) d.0,
      ap (book_of new) same ∙ d.1 ∙ ap (λ (b : Book). record b { condition = is_dead; device = with_fault device }) g.1,
    )

-- however the device fails in it
pub crash_stopped : (old prepared new : Ledger) (device done after : Device) (fault : DevFault) → AreTied old device → Goes GoesDown old prepared → prepared.condition ≡ codes.Down
    → Goes (λ b a. a ≡ record b { condition = is_dead }) prepared new → Leaves {A = Unit {0}} device done (Err fault) after → AreTied new after
crash_stopped old prepared new device done after devices.Failed t goes stopped dies leaves = (crash_failed old prepared new device after t goes stopped dies leaves).0
crash_stopped old prepared new device done after devices.NoMemory t goes stopped dies leaves = subst (AreTied new) (sym leaves) (crash_unready old prepared new device t goes dies).0

-- ---- the record of a place

holds_is : (b : Bool) (bytes : List ℕ) (entry : Option (Vec ℕ Global)) → HoldsBytes b bytes entry → is_some entry ≡ b
holds_is true bytes (Some v) h = refl
holds_is true bytes None h = absurd h
holds_is false bytes (Some v) h = absurd h
holds_is false bytes None h = refl

puts_is : (b : Bool) (bytes : List ℕ) (entry : Option (Vec ℕ Global)) (device : Device) → HoldsBytes b bytes entry → entry_put entry device ≡ with_record b bytes device
puts_is true bytes (Some v) device h = ap (λ (xs : List ℕ). record device { records = device.records ++ xs ∷ [] }) h
puts_is true bytes None device h = absurd h
puts_is false bytes (Some v) device h = absurd h
puts_is false bytes None device h = refl

-- ---- a place

as_some : {old new : Book} {number : ℕ} {reply : NfsReply} → Places old number reply new → (b : Book) × Places old number reply b
as_some {new = n} p = (n, p)

-- a call whose turn it is, with the tree that it is to be placed in
pub record IsTurn (old : Ledger) (device : Device) (number : ℕ) : Type 0 where
  pub tied : AreTied old device
  pub running : (book_of old device).condition ≡ is_running
  pub now : IsNow (book_of old device) number
  pub unplaced : IsUnplaced (book_of old device).placed number

module _ (old prepared : Ledger) (device : Device) (number : ℕ) (reply : NfsReply) (turn : IsTurn old device number) (same : IsSame old prepared) where
  abbrev both : AreTied prepared device × (book_of prepared device ≡ book_of old device)
  both = same_tied old prepared device same turn.tied

  pub ready_then : object_in prepared number < 2 ^ 64 → (before : Tree) → prepared.tree ≡ Some before → IsReadyFor (parts_of prepared) device number before
  ready_then lt before stood =
      ready prepared device number before both.0 (ap (λ (b : Book). b.condition) both.1 ∙ turn.running) lt (subst (λ (b : Book). IsNow b number) (sym both.1) turn.now)
      (subst (λ (b : Book). IsUnplaced b.placed number) (sym both.1) turn.unplaced) stood

  pub still_tied : AreTied prepared device
  still_tied = both.0

  pub still_same : book_of prepared device ≡ book_of old device
  still_same = both.1

  alive_now : (book_of old device).condition ≢ is_dead
  alive_now dead = clash (sym turn.running ∙ dead) where
    clash : is_running ≡ is_dead → ⊥
    clash e = cc

  module _ (stepped : Ledger) (step : TreeStep) (s : HasStepped prepared number (outcomes.Received reply) step stepped)
      (fits : IsNumbered prepared number × ShowsNow prepared number (outcomes.Received reply) × GivesAllowed prepared number (outcomes.Received reply) × IsShortAnswer prepared number (outcomes.Received reply) × IsSayable prepared number (outcomes.Received reply)) where
    abbrev r : IsReadyFor (parts_of prepared) device number s.before
    r = ready_then fits.0 s.before s.stood

    given_so : IsGiven (parts_of prepared) device number s.before reply r.call
    given_so = record { verifier = fits.1; gives = fits.2 s.before reply s.stood refl; within = fits.3 r.call reply r.of_now.recorded refl; said = fits.4 r.call reply r.of_now.recorded refl }

    -- it can be placed
    pub may_be_placed : (new : Book) × Places (book_of old device) number reply new
    may_be_placed =
        let takes = subst (λ (tree : Tree). TakesStep prepared.history.known.head.profile (may_make (asked_by prepared.history.known.calls number)) prepared.binds tree (object_in prepared number) (asked_by prepared.history.known.calls number) (outcomes.Received reply) stepped.binds s.after step)
        (same_tree_there s.stood r.stood) s.takes in
        let p = placed_so (parts_of prepared) device number s.before r reply given_so stepped.binds s.after step takes in
        subst (λ (b : Book). (new : Book) × Places b number reply new) both.1 (as_some p)

    pub place_done : (new : Ledger) (entry : Option (Vec ℕ Global)) (records : ℕ) (after : Device) → IsEntry prepared number (outcomes.Received reply) entry → HasPlaced stepped number (outcomes.Received reply) step (is_some entry) records new
        → after ≡ entry_put entry device → records ≡ length after.records → AreTied new after × Places (book_of old device) number reply (book_of new after)
    place_done new entry records after is h put count =
        let bytes = journal_record number r.message (reply_message r.call.xid reply) in
        let b = recorded prepared device number reply s.before r in
        let holds = is r.call r.message reply r.of_now.recorded r.sent refl in
        let kept = device_then prepared device number reply s.before r in
        let after_is : after ≡ kept = put ∙ puts_is b bytes entry device holds in
        let done = new_place prepared device number reply s.before r stepped new step records given_so s
        (subst (λ (c : Bool). HasPlaced stepped number (outcomes.Received reply) step c records new) (holds_is b bytes entry holds) h) (count ∙ ap (λ (d : Device). length d.records) after_is) in (
          subst (AreTied new) (sym after_is) done.0,
          subst (λ (d : Device). Places (book_of old device) number reply (book_of new d)) (sym after_is) (subst (λ (c : Book). Places c number reply (book_of new kept)) both.1 done.1),
        )

    -- the journal didn't take the record
    pub place_lost : (new : Ledger) → HasLost stepped number step.made new → AreTied new device × (book_of new device ≡ record (book_of old device) { condition = is_down })
    place_lost new l =
        let lost = lost_tied prepared stepped new device number (outcomes.Received reply) s.before step r s l in
        (lost.0, lost.1 ∙ ap (λ (b : Book). record b { condition = is_down }) both.1)

    pub place_unkept : (new : Ledger) → HasLost stepped number step.made new → PlaceStops (book_of old device) number reply place.NoMemory × IsLeft (book_of old device) place.NoMemory (book_of new device)
    place_unkept new l =
        let lost = place_lost new l in
        ((turn.running, turn.now, turn.unplaced), record { alive = left_alive (ap (λ (b : Book). b.condition) lost.1); downed = ap (λ (b : Book). record b { condition = is_down }) lost.1 }) where
          left_alive : {c : Condition} → c ≡ is_down → c ≡ is_dead → ⊥
          left_alive e f = cc

    pub place_failed : (new : Ledger) → HasLost stepped number step.made new
        → AreTied new (with_fault device) × (PlaceStops (book_of old device) number reply place.DeviceFault × IsLeft (book_of old device) place.DeviceFault (book_of new (with_fault device)))
    place_failed new l =
        let lost = place_lost new l in (
          from_parts new (with_fault device) (failed_tied (parts_of new) device (λ up. not_up (sym l.condition ∙ up)) (to_parts new device lost.0)),
          ((turn.running, turn.now, turn.unplaced, may_be_placed), record { alive = left_alive (ap (λ (b : Book). b.condition) lost.1); downed = ap (λ (b : Book). record b { condition = is_down; device = with_fault device }) lost.1 }),
        ) where
          left_alive : {c : Condition} → c ≡ is_down → c ≡ is_dead → ⊥
          left_alive e f = cc

  -- ---- a place that was refused ahead of its step

  -- the same book, before it goes down
  left_so : (new : Ledger) (fault : PlaceFault) → book_of new device ≡ book_of old device → after_place (book_of old device) fault ≡ record (book_of old device) { condition = is_down } → IsLeft (book_of old device) fault (book_of new device)
  left_so new fault is leaves = record {
    alive = λ dead. alive_now (sym (ap (λ (b : Book). b.condition) is) ∙ dead);
    downed = ap (λ (b : Book). record b { condition = is_down }) is ∙ sym leaves;
  }

  pub refused_early : (before : Tree) → prepared.tree ≡ Some before → (fault : PlaceFault)
      → StopsWhere (¬ (IsNumbered prepared number × ShowsNow prepared number (outcomes.Received reply) × MayGive prepared number (outcomes.Received reply) × IsShortAnswer prepared number (outcomes.Received reply))) fault
      → PlaceStops (book_of old device) number reply fault × IsLeft (book_of old device) fault (book_of prepared device)
  refused_early before stood place.NotLegal stops = (
    (
      turn.running,
      turn.now,
      turn.unplaced,
      (λ p.
          let there = subst (λ (b : Book). Places b number reply p.0) (sym both.1) p.1 in
          let r = ready_then there.numbered before stood in
          stops (there.numbered, shows prepared device number reply before r p.0 there, gives prepared device number reply before r p.0 there, is_short prepared device number reply before r p.0 there)),
    ),
    left_so prepared place.NotLegal both.1 refl,
  )
  refused_early before stood place.NoMemory stops = ((turn.running, turn.now, turn.unplaced), left_so prepared place.NoMemory both.1 refl)
  refused_early before stood place.Down stops = absurd stops
  refused_early before stood (place.EraOver n) stops = absurd stops
  refused_early before stood place.LaneClosed stops = absurd stops
  refused_early before stood place.OutOfTurn stops = absurd stops
  refused_early before stood place.DeviceFault stops = absurd stops

  -- the tree doesn't allow it
  pub refused_step : (before : Tree) → prepared.tree ≡ Some before → (new : Ledger) → HasStayed prepared new → HasNoStep prepared number (outcomes.Received reply)
      → AreTied new device × (PlaceStops (book_of old device) number reply place.NotLegal × IsLeft (book_of old device) place.NotLegal (book_of new device))
  refused_step before stood new stayed none =
      let left = stayed_tied prepared new device stayed both.0 in (
        left.0,
        (
          (
            turn.running,
            turn.now,
            turn.unplaced,
            (λ p.
                let there = subst (λ (b : Book). Places b number reply p.0) (sym both.1) p.1 in
                not_without_step prepared device number reply before (ready_then there.numbered before stood) p.0 there none),
          ),
          left_so new place.NotLegal (left.1 ∙ both.1) refl,
        ),
      )

  -- or memory is wanting
  pub unstepped : (new : Ledger) → HasStayed prepared new → AreTied new device × (PlaceStops (book_of old device) number reply place.NoMemory × IsLeft (book_of old device) place.NoMemory (book_of new device))
  unstepped new stayed =
      let left = stayed_tied prepared new device stayed both.0 in
      (left.0, ((turn.running, turn.now, turn.unplaced), left_so new place.NoMemory (left.1 ∙ both.1) refl))

-- ---- the turns of a place, from what each call ensures

pub turn_so : (old : Ledger) (device : Device) (book : Book) (number : ℕ) → AreTied old device → book_of old device ≡ book → book.condition ≡ is_running → IsNow book number → IsUnplaced book.placed number
    → IsTurn old device number
turn_so old device book number t is runs now unplaced = record {
  tied = t;
  running = ap (λ (b : Book). b.condition) is ∙ runs;
  now = subst (λ (b : Book). IsNow b number) (sym is) now;
  unplaced = subst (λ (b : Book). IsUnplaced b.placed number) (sym is) unplaced;
}

pub asked_so : (old : Ledger) (device : Device) (number : ℕ) → IsTurn old device number → IsAsked old.history.known.calls number
asked_so old device number turn = reached_asked (book_of old device) number turn.now.0 turn.tied.reached turn.now.1.recorded

module _ (old prepared : Ledger) (device : Device) (number : ℕ) (turn : IsTurn old device number) (same : IsSame old prepared) where
  pub asked_then : IsAsked prepared.history.known.calls number
  asked_then = subst (λ (h : HistoryValue). IsAsked h.known.calls number) (sym same.history) (asked_so old device number turn)

  pub tied_then : AreTied prepared device
  tied_then = (same_tied old prepared device same turn.tied).0

  tree_then : (before : Tree) × (prepared.tree ≡ Some before)
  tree_then = value_of prepared.tree (tied_then.stands (same.condition ∙ runs_now old.condition turn.running))

  pub free_then : object_in prepared number < 2 ^ 64 → (reply : NfsReply) → object_of prepared.binds (handle_of (object_in prepared number)) ≡ None
  free_then lt reply = is_free (parts_of prepared) device number tree_then.0 (ready_then old prepared device number reply turn same lt tree_then.0 tree_then.1)

  pub early : (outcome : Outcome) (reply : NfsReply) (fault : PlaceFault) → outcome ≡ outcomes.Received reply
      → StopsWhere (¬ (IsNumbered prepared number × ShowsNow prepared number outcome × MayGive prepared number outcome × IsShortAnswer prepared number outcome)) fault
      → PlaceStops (book_of old device) number reply fault × IsLeft (book_of old device) fault (book_of prepared device)
  early outcome reply fault is stops =
      refused_early old prepared device number reply turn same tree_then.0 tree_then.1 fault
      (subst (λ (o : Outcome). StopsWhere (¬ (IsNumbered prepared number × ShowsNow prepared number o × MayGive prepared number o × IsShortAnswer prepared number o)) fault) is stops)

  pub stayed_then : (new : Ledger) → HasStayed prepared new → AreTied new device
  stayed_then new stayed = (stayed_tied prepared new device stayed tied_then).0

  pub step_refused : (new : Ledger) (outcome : Outcome) (reply : NfsReply) (fault : StepFault) → outcome ≡ outcomes.Received reply → HasStayed prepared new → (fault ≡ steps.NotAllowed → HasNoStep prepared number outcome)
      → PlaceStops (book_of old device) number reply (of_step fault) × IsLeft (book_of old device) (of_step fault) (book_of new device)
  step_refused new outcome reply steps.NotAllowed is stayed none =
      (refused_step old prepared device number reply turn same tree_then.0 tree_then.1 new stayed (subst (HasNoStep prepared number) is (none refl))).1
  step_refused new outcome reply steps.NoMemory is stayed none = (unstepped old prepared device number reply turn same new stayed).1

-- memory ran out ahead of it all
pub unspelled : (old : Ledger) (device : Device) (number : ℕ) (turn : IsTurn old device number) (reply : NfsReply) → PlaceStops (book_of old device) number reply place.NoMemory × IsLeft (book_of old device) place.NoMemory (book_of old device)
unspelled old device number turn reply = ((turn.running, turn.now, turn.unplaced), record { alive = λ dead. clash (sym turn.running ∙ dead); downed = refl }) where
  clash : is_running ≡ is_dead → ⊥
  clash e = cc
