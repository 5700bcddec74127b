-- parts that belong together, where an event is put behind the others of the history
use Rattle.std.proofs.Common.{◌≡◌, ℕ, ◌+◌, ◌-◌, List, [], ◌∷◌, ◌++◌, length, map, take, Option, Some, refl, sym, ap, ◌∙◌, subst}
use Rattle.std.specs.Prelude.{IsSome, IfSome, slice_get}
use Rattle.std.specs.List.{AllByRecursion}
use Rattle.nfs_history.specs.declared.recorded.RecordedCall.{RecordedCall}
use Rattle.nfs_history.specs.HistoryValue.{HistoryValue}
use Rattle.replay_law.specs.Run.{state_after, kept_steps}
use Rattle.replay_law.specs.Undone.{UndoesAll}
use Rattle.tree_nodes.specs.declared.undo.Undo.{Undo}
use Rattle.tree_starts.specs.Head.{Head}
use Rattle.tree_nodes.specs.Tree.{Tree}
use Rattle.tree_nodes.specs.Undo.{TakesBack}
use Rattle.tree_handles.specs.Binding.{Bindings, object_of}
use Rattle.file_tree.specs.StartTree.{start_tree}
use Rattle.journal.specs.Device.{Device}
use Rattle.book_laws.specs.Placing.{Placed, records_in, front_with}
use Rattle.book_laws.specs.Book.{Book, bindings_made, setting_made, next_by}
use Rattle.book_laws.specs.Steps.{Steps}
use Rattle.book_laws.proofs.Invariant.{Over}
use Rattle.book_laws.proofs.Running.{head_is, tail_is}
use Rattle.book_ledger.specs.declared.placed.PlacedCall.{PlacedCall}
use Rattle.book_ledger.specs.declared.placed.Condition as code
use Rattle.book_ledger.specs.declared.placed.Condition.TheVariants as codes
use Rattle.book_ledger.specs.declared.ledger.Ledger.{Ledger}
use Rattle.book_ledger.specs.Inside.{placed_in, era_in, made_in, book_of, IsReached, AreCounted, ArePlaced, IsShort, AreTied, OnlyHistory}
use Rattle.book_ledger.proofs.Runs.{reached_step}

-- ---- what doesn't speak of the history

module _ (binds : Bindings) (tree : Option Tree) (undos : List Undo) (kept : ℕ) (condition : code.Condition) (device : Device) where
  abbrev pub behind : Head → List Over → List Placed → List ℕ → ℕ → Option Tree
  behind head over placed made keep = state_after (next_by (setting_made head made)) (start_tree head.start) (kept_steps over ++ take (front_with (keep - records_in (kept_steps over)) placed) placed)

  pub record IsCarried (head : Head) (over : List Over) (placed : List Placed) (made : List ℕ) : Type 0 where
    pub kept_is : kept ≡ records_in (kept_steps over)
    pub bound : (handle : List ℕ) → object_of binds handle ≡ object_of (bindings_made made) handle
    pub tree_is : IfSome tree (λ t. state_after (next_by (setting_made head made)) (start_tree head.start) (kept_steps over ++ placed) ≡ Some t)
    pub stands : condition ≡ codes.Running → IsSome tree
    pub undos_are : IsSome tree → length undos + device.mark ≡ length device.records
    pub undone : (earlier later : List Undo) (t before : Tree) → undos ≡ earlier ++ later → tree ≡ Some t
        → behind head over placed made (length device.records - length later) ≡ Some before → UndoesAll TakesBack later t before

  pub carry : (head head' : Head) (over over' : List Over) (placed placed' : List Placed) (made made' : List ℕ) → head ≡ head' → over ≡ over' → placed ≡ placed' → made ≡ made' → IsCarried head over placed made
      → IsCarried head' over' placed' made'
  carry head head' over over' placed placed' made made' o p q r x =
      subst (λ (m : List ℕ). IsCarried head' over' placed' m) r
      (subst (λ (xs : List Placed). IsCarried head' over' xs made) q
      (subst (λ (xs : List Over). IsCarried head' xs placed made) p (subst (λ (h : Head). IsCarried h over placed made) o x)))

-- ---- parts

abbrev pub over_in : List RecordedCall → Ledger → List Over
over_in recorded ledger = map (era_in recorded) ledger.over.items

abbrev pub placed_now : List RecordedCall → Ledger → List Placed
placed_now recorded ledger = map (placed_in recorded) ledger.placed.items

pub carried : (ledger : Ledger) (device : Device) → AreTied ledger device
    → IsCarried ledger.binds ledger.tree ledger.undos.items ledger.kept ledger.condition device ledger.history.known.head (over_in ledger.history.known.calls ledger) (placed_now ledger.history.known.calls ledger)
    (made_in (length ledger.history.known.head.start) ledger.calls.items)
carried ledger device t = record { kept_is = t.kept; bound = t.bound; tree_is = t.tree; stands = t.stands; undos_are = t.undos; undone = t.undone }

counted_same : (ahead : ℕ) (recorded recorded' : List RecordedCall) (xs : List PlacedCall) → map (placed_in recorded) xs ≡ map (placed_in recorded') xs → AreCounted ahead recorded xs → AreCounted ahead recorded' xs
counted_same ahead recorded recorded' [] e c = tt
counted_same ahead recorded recorded' (x ∷ xs) e c =
    (c.0 ∙ ap (λ (s : Placed). ahead + records_in (s ∷ [])) (head_is e), counted_same x.records recorded recorded' xs (tail_is e) c.1)

-- room that is set aside makes no difference
unspared : (ledger : Ledger) (device : Device) → AreTied (record ledger { history = record ledger.history { spare = 0 } }) device → AreTied ledger device
unspared ledger device t = record {
  reached = t.reached;
  kept = t.kept;
  counted = t.counted;
  placed = record { count = t.placed.count; there = t.placed.there; has = t.placed.has };
  short = t.short;
  bound = t.bound;
  tree = t.tree;
  stands = t.stands;
  undos = t.undos;
  undone = t.undone;
}

-- ---- another history, in which the placed calls are the same

module _ (old new : Ledger) (device : Device) (t : AreTied old device) (only : OnlyHistory old new) (history : HistoryValue) (is : record new.history { spare = 0 } ≡ history)
    (over_same : over_in old.history.known.calls old ≡ over_in history.known.calls old) (placed_same : placed_now old.history.known.calls old ≡ placed_now history.known.calls old)
    (made_same : made_in (length old.history.known.head.start) old.calls.items ≡ made_in (length old.history.known.head.start) new.calls.items) (head_same : old.history.known.head ≡ history.known.head) where
  abbrev between : Ledger
  between = record old { history = history; calls = new.calls }

  abbrev wanted : Book
  wanted = record (book_of old device) { history = history }

  book_between : book_of (record old { history = record history { spare = 0 }; calls = new.calls }) device ≡ record wanted { history = record history { spare = 0 } }
  book_between = λ i. record {
    history = record history { spare = 0 };
    over = sym over_same i;
    placed = sym placed_same i;
    made = (ap (λ (h : Head). made_in (length h.start) new.calls.items) (sym head_same) ∙ sym made_same) i;
    device = device;
    condition = (book_of old device).condition;
  }

  no_spare : record history { spare = 0 } ≡ history
  no_spare = ap (λ (h : HistoryValue). record h { spare = 0 }) (sym is) ∙ is

  pub book_with : book_of new device ≡ wanted
  book_with =
      ap (λ (l : Ledger). book_of l device) only
      ∙ ap (λ (h : HistoryValue). book_of (record old { history = h; calls = new.calls }) device) is
      ∙ book_between
      ∙ ap (λ (h : HistoryValue). record (book_of old device) { history = h }) no_spare

  pub tied_with : Steps (book_of old device) wanted → ArePlaced between → AllByRecursion IsShort history.events → AreTied new device
  tied_with step placed short =
      let c = carried old device t in
      let d = carry old.binds old.tree old.undos.items old.kept old.condition device old.history.known.head history.known.head (over_in old.history.known.calls old) (over_in history.known.calls old) (placed_now old.history.known.calls old) (placed_now history.known.calls old)
      (made_in (length old.history.known.head.start) old.calls.items) (made_in (length history.known.head.start) new.calls.items) head_same over_same placed_same
      (made_same ∙ ap (λ (h : Head). made_in (length h.start) new.calls.items) head_same) c in
      let reached = reached_step (book_of old device) wanted t.reached step in
      let tied : AreTied between device = record {
        reached = subst IsReached (sym (book_between ∙ ap (λ (h : HistoryValue). record (book_of old device) { history = h }) no_spare)) reached;
        kept = d.kept_is;
        counted = counted_same old.kept old.history.known.calls history.known.calls old.placed.items placed_same t.counted;
        placed = placed;
        short = short;
        bound = d.bound;
        tree = d.tree_is;
        stands = d.stands;
        undos = d.undos_are;
        undone = d.undone;
      } in
      subst (λ (l : Ledger). AreTied l device) (sym only)
      (unspared (record old { history = new.history; calls = new.calls }) device
      (subst (λ (h : HistoryValue). AreTied (record old { history = h; calls = new.calls }) device) (sym is) tied))

-- ---- nothing but room

module _ (old new : Ledger) (device : Device) (t : AreTied old device) (only : OnlyHistory old new) (history : new.history ≡ old.history) (states : new.calls.items ≡ old.calls.items) where
  abbrev with_states : Ledger
  with_states = record old { history = old.history; calls = new.calls }

  book_states : book_of with_states device ≡ book_of old device
  book_states = ap (λ (made : List ℕ). record (book_of old device) { made = made }) (ap (made_in (length old.history.known.head.start)) states)

  pub same_book : book_of new device ≡ book_of old device
  same_book =
      ap (λ (l : Ledger). book_of l device) only
      ∙ ap (λ (h : HistoryValue). book_of (record old { history = h; calls = new.calls }) device) history
      ∙ book_states

  pub same_tied : AreTied new device
  same_tied =
      let recorded = old.history.known.calls in
      let d = carry old.binds old.tree old.undos.items old.kept old.condition device old.history.known.head old.history.known.head (over_in recorded old) (over_in recorded old) (placed_now recorded old) (placed_now recorded old)
      (made_in (length old.history.known.head.start) old.calls.items) (made_in (length old.history.known.head.start) new.calls.items) refl refl refl (ap (made_in (length old.history.known.head.start)) (sym states)) (carried old device t) in
      let tied : AreTied with_states device = record {
        reached = subst IsReached (sym book_states) t.reached;
        kept = d.kept_is;
        counted = t.counted;
        placed = record {
          count = ap length states ∙ t.placed.count;
          there = λ number place c state at era stands has. t.placed.there number place c state at era (sym (ap (λ xs. slice_get xs (number - 1)) states) ∙ stands) has;
          has = λ place p at. (let h = t.placed.has place p at in (h.0, ap (λ xs. slice_get xs (p.number - 1)) states ∙ h.1, h.2));
        };
        short = t.short;
        bound = d.bound;
        tree = d.tree_is;
        stands = d.stands;
        undos = d.undos_are;
        undone = d.undone;
      } in
      subst (λ (l : Ledger). AreTied l device) (sym only) (subst (λ (h : HistoryValue). AreTied (record old { history = h; calls = new.calls }) device) (sym history) tied)
