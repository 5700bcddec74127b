-- a book that goes down, whose device fails, and whose records are all put on stable storage
use Rattle.std.proofs.Common.{◌≡◌, ◌≢◌, ◌⊎◌, inl, inr, ℕ, zero, suc, ◌+◌, ◌-◌, Bool, true, false, List, [], ◌∷◌, ◌++◌, length, take, Option, Some, None, refl, sym, ap, ◌∙◌, subst, arith}
use Rattle.std.specs.Prelude.{IsSome, IfSome, option_and_then, if◌then◌else◌}
use Rattle.std.specs.List.{AllByRecursion}
use Rattle.nfs3_types.specs.declared.replies.Outcome.{Outcome}
use Rattle.replay_law.specs.Run.{state_after, kept_steps}
use Rattle.replay_law.proofs.Runs.{state_after-append}
use Rattle.tree_nodes.specs.declared.undo.Undo.{Undo}
use Rattle.tree_nodes.specs.Tree.{Tree}
use Rattle.tree_nodes.specs.Undo.{TakesBack}
use Rattle.tree_nodes.proofs.Chains.{chained, decide}
use Rattle.replay_law.specs.Undone.{UndoesAll}
use Rattle.journal.specs.Device.{Device, settled, with_fault}
use Rattle.book_laws.specs.Placing.{Placed, is_recorded, records_in, front_with}
use Rattle.book_laws.specs.Book.{Book, Condition, tree_of, records_kept, Setting, next_by, setting, tree_at_first}
use Rattle.book_laws.specs.Book.Condition.{running, down, dead}
use Rattle.book_laws.specs.Steps.{MayBecome}
use Rattle.book_laws.specs.Steps.Steps.{flushes, refuses}
use Rattle.book_laws.proofs.Running.{unrecorded_leaves_by}
use Rattle.book_ledger.specs.declared.placed.Condition as code
use Rattle.book_ledger.specs.declared.placed.Condition.TheVariants as codes
use Rattle.book_ledger.specs.declared.ledger.Ledger.{Ledger}
use Rattle.book_ledger.specs.Inside.{condition_of, book_of, tree_behind, AreTied}
use Rattle.book_ledger.proofs.Runs.{IsReplyTo, IsSound, sound, reached_step}

pub running_book : (condition : code.Condition) → condition_of condition ≡ running → condition ≡ codes.Running
running_book codes.Running e = refl
running_book codes.Down e = absurd (cc)
running_book codes.Dead e = absurd (cc)

stays : (c : Condition) → MayBecome c c
stays running = tt
stays down = tt
stays dead = tt

may_go_down : (c : code.Condition) → c ≢ codes.Dead → MayBecome (condition_of c) down
may_go_down codes.Running isnt = tt
may_go_down codes.Down isnt = tt
may_go_down codes.Dead isnt = absurd (isnt refl)

may_die : (c : code.Condition) → MayBecome (condition_of c) dead
may_die codes.Running = tt
may_die codes.Down = tt
may_die codes.Dead = tt

-- ---- another condition

turned : (old : Ledger) (condition : code.Condition) (device : Device) → AreTied old device → MayBecome (condition_of old.condition) (condition_of condition) → (condition ≡ codes.Running → IsSome old.tree)
    → AreTied (record old { condition = condition }) device
turned old condition device t may stands = record {
  reached = reached_step (book_of old device) (book_of (record old { condition = condition }) device) t.reached
      (refuses (record { condition = condition_of condition; faults = device.faults; spare = 0; may_become = may; counted = inl refl; done = refl }));
  kept = t.kept;
  counted = t.counted;
  placed = record { count = t.placed.count; there = t.placed.there; has = t.placed.has };
  short = t.short;
  bound = t.bound;
  tree = t.tree;
  stands = stands;
  undos = t.undos;
  undone = t.undone;
}

pub down_tied : (old : Ledger) (device : Device) → old.condition ≢ codes.Dead → AreTied old device → AreTied (record old { condition = codes.Down }) device
down_tied old device isnt t = turned old codes.Down device t (may_go_down old.condition isnt) (λ e. absurd (never e)) where
  never : codes.Down ≡ codes.Running → ⊥
  never e = cc

pub dead_tied : (old : Ledger) (device : Device) → AreTied old device → AreTied (record old { condition = codes.Dead }) device
dead_tied old device t = turned old codes.Dead device t (may_die old.condition) (λ e. absurd (never e)) where
  never : codes.Dead ≡ codes.Running → ⊥
  never e = cc

-- ---- the device fails

pub fails : (ledger : Ledger) (device : Device) → AreTied ledger device → ledger.condition ≢ codes.Running → AreTied ledger (with_fault device)
fails ledger device t isnt = record {
  reached = reached_step (book_of ledger device) (book_of ledger (with_fault device)) t.reached
      (refuses (record {
        condition = condition_of ledger.condition;
        faults = device.faults + 1;
        spare = 0;
        may_become = stays (condition_of ledger.condition);
        counted = inr (refl, λ e. isnt (running_book ledger.condition e));
        done = refl;
      }));
  kept = t.kept;
  counted = t.counted;
  placed = t.placed;
  short = t.short;
  bound = t.bound;
  tree = t.tree;
  stands = t.stands;
  undos = t.undos;
  undone = t.undone;
}

-- ---- all records are on stable storage

module _ (s : Setting) where
  -- a call that isn't recorded leaves the tree
  leaves : (step : Placed) (before after : Tree) → IsReplyTo step → is_recorded step ≡ false → next_by s before step.number step.call step.outcome ≡ Some after → after ≡ before
  leaves step before after r isnt next =
      unrecorded_leaves_by s before after step.number step.call r.reply
      (subst (λ (o : Outcome). next_by s before step.number step.call o ≡ Some after) r.received next)
      (ap (λ (o : Outcome). is_recorded (record { number = step.number; call = step.call; outcome = o })) (sym r.received) ∙ isnt)

  more : (b : Bool) (n : ℕ) → b ≡ true → (if b then suc n else n) ≡ 0 → ⊥
  more true n e f = omega (arith, f)
  more false n e f = absurd (cc)

  fewer : (b : Bool) (n : ℕ) → b ≡ false → (if b then suc n else n) ≡ 0 → n ≡ 0
  fewer false n e f = f
  fewer true n e f = absurd (cc)

  none_leaves : (steps : List Placed) (tree final : Tree) → AllByRecursion IsReplyTo steps → records_in steps ≡ 0 → state_after (next_by s) tree steps ≡ Some final → final ≡ tree
  none_leaves [] tree final r none runs = is runs where
    is : Some tree ≡ Some final → final ≡ tree
    is e = cc
  none_leaves (step ∷ steps) tree final r none runs =
      let first = chained (λ after. state_after (next_by s) after steps) (next_by s tree step.number step.call step.outcome) final runs in
      go first.0 first.1 (decide (is_recorded step)) (λ e. none_leaves steps first.0 final r.1 e first.2) where
        go : (middle : Tree) → next_by s tree step.number step.call step.outcome ≡ Some middle → (is_recorded step ≡ true) ⊎ (is_recorded step ≡ false) → (records_in steps ≡ 0 → final ≡ middle) → final ≡ tree
        go middle next (inl is) rest = absurd (more (is_recorded step) (records_in steps) is none)
        go middle next (inr isnt) rest = rest (fewer (is_recorded step) (records_in steps) isnt none) ∙ leaves step tree middle r.0 isnt next

  -- behind the last record nothing changes
  front_leaves : (count : ℕ) (steps : List Placed) (tree final : Tree) → AllByRecursion IsReplyTo steps → count ≡ records_in steps → state_after (next_by s) tree steps ≡ Some final
      → state_after (next_by s) tree (take (front_with count steps) steps) ≡ Some final
  front_leaves zero steps tree final r is runs = ap Some (sym (none_leaves steps tree final r (sym is) runs))
  front_leaves (suc count) [] tree final r is runs = absurd (cc)
  front_leaves (suc count) (step ∷ steps) tree final r is runs =
      let first = chained (λ after. state_after (next_by s) after steps) (next_by s tree step.number step.call step.outcome) final runs in
      go first.0 first.1 (is_recorded step) is (λ n e. front_leaves n steps first.0 final r.1 e first.2) where
        one_less : {m n : ℕ} → suc m ≡ suc n → m ≡ n
        one_less f = omega (arith, f)

        go : (middle : Tree) → next_by s tree step.number step.call step.outcome ≡ Some middle → (b : Bool) → suc count ≡ (if b then suc (records_in steps) else records_in steps)
            → ((n : ℕ) → n ≡ records_in steps → state_after (next_by s) middle (take (front_with n steps) steps) ≡ Some final)
            → option_and_then (λ after. state_after (next_by s) after (take (front_with (if b then count else suc count) steps) steps)) (next_by s tree step.number step.call step.outcome) ≡ Some final
        go middle next true e rest = ap (option_and_then (λ after. state_after (next_by s) after (take (front_with count steps) steps))) next ∙ rest count (one_less e)
        go middle next false e rest = ap (option_and_then (λ after. state_after (next_by s) after (take (front_with (suc count) steps) steps))) next ∙ rest (suc count) e

module _ (ledger : Ledger) (device : Device) (t : AreTied ledger device) where
  abbrev book : Book
  book = book_of ledger device

  s : IsSound book
  s = sound book t.reached

  -- the tree behind all records is the tree
  pub behind_all : (tree : Tree) → tree_of book ≡ Some tree → tree_behind book (length device.records) ≡ Some tree
  behind_all tree is =
      let next = next_by (setting book) in
      let kept = kept_steps book.over in
      let base = chained (λ at. state_after next at book.placed) (state_after next (tree_at_first book) kept) tree (sym (state_after-append next (tree_at_first book) kept book.placed) ∙ is) in
      let count : length device.records - records_kept book ≡ records_in book.placed = omega (arith, s.invariant.records) in
      state_after-append next (tree_at_first book) kept (take (front_with (length device.records - records_kept book) book.placed) book.placed)
      ∙ ap (option_and_then (λ at. state_after next at (take (front_with (length device.records - records_kept book) book.placed) book.placed))) base.1
      ∙ front_leaves (setting book) (length device.records - records_kept book) book.placed base.0 tree s.replied count base.2

none_more : (n m : ℕ) → n ≡ 0 → n + m ≡ m
none_more n m e = omega (arith, e)

-- the values that take records back are let go
pub settled_tied : (old new : Ledger) (device : Device) → AreTied old device → old.condition ≡ codes.Running → new ≡ record old { undos = new.undos } → new.undos.items ≡ [] → AreTied new (settled device)
settled_tied old new device t runs only none = subst (λ (l : Ledger). AreTied l (settled device)) (sym only) (record {
  reached = reached_step (book_of old device) (book_of old (settled device)) t.reached (flushes (record { running = ap condition_of runs; done = refl }));
  kept = t.kept;
  counted = t.counted;
  placed = record { count = t.placed.count; there = t.placed.there; has = t.placed.has };
  short = t.short;
  bound = t.bound;
  tree = t.tree;
  stands = t.stands;
  undos = λ some. none_more (length new.undos.items) (length device.records) (ap length none);
  undone = undone;
}) where
  empty : (earlier later : List Undo) → [] ≡ earlier ++ later → later ≡ []
  empty [] later e = sym e
  empty (x ∷ earlier) later e = absurd (cc)

  one : {a b : Tree} → Some a ≡ Some b → a ≡ b
  one e = cc

  the_tree : (o : Option Tree) (tree : Tree) → o ≡ Some tree → IfSome o (λ x. tree_of (book_of old device) ≡ Some x) → tree_of (book_of old device) ≡ Some tree
  the_tree None tree e h = absurd (cc)
  the_tree (Some x) tree e h = h ∙ e

  undone : (earlier later : List Undo) (tree before : Tree) → new.undos.items ≡ earlier ++ later → old.tree ≡ Some tree
      → tree_behind (book_of old device) (length device.records - length later) ≡ Some before → UndoesAll TakesBack later tree before
  undone earlier later tree before parts is behind =
      let nothing : later ≡ [] = empty earlier later (sym none ∙ parts) in
      let all : tree_behind (book_of old device) (length device.records - 0) ≡ Some before = subst (λ (xs : List Undo). tree_behind (book_of old device) (length device.records - length xs) ≡ Some before) nothing behind in
      let whole : length device.records - 0 ≡ length device.records = omega arith in
      let same : tree ≡ before = one (sym (behind_all old device t tree (the_tree old.tree tree is t.tree)) ∙ sym (ap (tree_behind (book_of old device)) whole) ∙ all) in
      subst (λ (xs : List Undo). UndoesAll TakesBack xs tree before) (sym nothing) same
