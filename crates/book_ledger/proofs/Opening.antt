-- a book ahead of its first step
use Rattle.std.proofs.Common.{append-nil, ◌≡◌, ℕ, ◌+◌, ◌-◌, List, [], ◌∷◌, ◌++◌, length, map, Option, Some, refl, sym, ap, ◌∙◌, subst}
use Rattle.std.specs.Prelude.{IsSome, IfSome, slice_get}
use Rattle.std.specs.List.{range_with_len}
use Rattle.std.specs.List.{AllByRecursion}
use Rattle.std.specs.Int.{w64, to_be_bytes}
use Rattle.xdr_records.specs.Texts.{long_text}
use Rattle.history_file.specs.declared.event.Event as owned
use Rattle.history_file.specs.Event.{Recording}
use Rattle.history_file.specs.Owning.{all_happened}
use Rattle.tree_starts.specs.Head.{Head}
use Rattle.tree_starts.specs.Start.{IsStart}
use Rattle.tree_starts.specs.declared.object.StartObject.{StartObject}
use Rattle.tree_starts.specs.declared.profile.Profile.{Profile}
use Rattle.nfs_history.specs.HistoryValue.{HistoryValue}
use Rattle.nfs_history.specs.History.{IsHistory}
use Rattle.nfs_history.proofs.OneHistory.{known_once}
use Rattle.replay_law.specs.Undone.{UndoesAll}
use Rattle.tree_nodes.specs.declared.undo.Undo.{Undo}
use Rattle.tree_nodes.specs.Tree.{Tree}
use Rattle.file_tree.specs.StartTree.{start_tree}
use Rattle.tree_nodes.specs.Undo.{TakesBack}
use Rattle.tree_handles.specs.Binding.{Bindings, object_of}
use Rattle.journal.specs.Device.{Device}
use Rattle.book_laws.specs.Book.{Book, handle_of, bindings, bindings_made, tree_of, records_kept}
use Rattle.book_laws.specs.Steps.{opening_book}
use Rattle.book_laws.proofs.EveryBook.{opening_holds}
use Rattle.book_ledger.specs.declared.placed.PlacedCall.{PlacedCall}
use Rattle.book_ledger.specs.declared.placed.Condition.TheVariants as codes
use Rattle.book_ledger.specs.declared.ledger.Ledger.{Ledger}
use Rattle.book_ledger.specs.Inside.{placed_in, era_in, made_in, condition_of, book_of, tree_behind, AreCounted, IsShort, IsReached, AreTied}
use Rattle.book_ledger.proofs.Runs.{reached_opening}

-- ---- the handle of an object

pub handle_is : (object : ℕ) → to_be_bytes w64 object ≡ handle_of object
unfolding long_text
handle_is object = refl

abbrev pub head_of : Profile → List StartObject → List ℕ → Head
head_of profile start root = record { root = root; start = start; profile = profile }

-- ---- a history of no events

none_happened : (events : List owned.Event) → all_happened events ≡ [] → events ≡ []
none_happened [] e = refl
none_happened (x ∷ events) e = absurd (cc)

pub empty_is : (profile : Profile) (start : List StartObject) → IsStart start → (root : List ℕ) (history : HistoryValue) → root ≡ handle_of 0
    → IsHistory (record { head = head_of profile start root; events = [] }) history → history.spare ≡ 0 → history ≡ (opening_book profile start 0).history
empty_is profile start is_start root history is built spare =
    let seen : Recording = record { head = head_of profile start (handle_of 0); events = [] } in
    let here : IsHistory seen history = subst (λ (r : List ℕ). IsHistory (record { head = head_of profile start r; events = [] }) history) is built in
    let known = known_once seen history.known (opening_book profile start 0).history.known here.known (opening_holds profile start 0 is_start).genuine.is_history.known in
    let events = none_happened history.events here.events in
    λ i. record { known = known i; events = events i; spare = spare i }

-- ---- the parts of a book

module _ (profile : Profile) (start : List StartObject) (is_start : IsStart start) (ledger : Ledger) (faults : ℕ) (history : ledger.history ≡ (opening_book profile start 0).history) (over : ledger.over.items ≡ []) (placed : ledger.placed.items ≡ []) (states : ledger.calls.items ≡ [])
    (binds : ledger.binds ≡ bindings_made (range_with_len 1 (length start))) (tree : ledger.tree ≡ Some (start_tree start)) (undos : ledger.undos.items ≡ []) (kept : ledger.kept ≡ 0) (condition : ledger.condition ≡ codes.Running) where
  abbrev empty_device : Device
  empty_device = (opening_book profile start faults).device

  pub opening_is : book_of ledger empty_device ≡ opening_book profile start faults
  opening_is = λ i. record {
    history = record (history i) { spare = 0 };
    over = map (era_in ledger.history.known.calls) (over i);
    placed = map (placed_in ledger.history.known.calls) (placed i);
    made = ((λ j. made_in (length (history j).known.head.start) (states j)) ∙ append-nil (range_with_len 1 (length start))) i;
    device = empty_device;
    condition = condition_of (condition i);
  }

  empty : (earlier later : List Undo) → [] ≡ earlier ++ later → later ≡ []
  empty [] later e = sym e
  empty (x ∷ earlier) later e = absurd (cc)

  one : {a b : Tree} → Some a ≡ Some b → a ≡ b
  one e = cc

  nothing : {X : Type 0} (n : ℕ) (x : X) → slice_get [] n ≡ Some x → ⊥
  nothing n x e = cc

  undone : (earlier later : List Undo) (t before : Tree) → ledger.undos.items ≡ earlier ++ later → ledger.tree ≡ Some t → tree_behind (book_of ledger empty_device) (0 - length later) ≡ Some before
      → UndoesAll TakesBack later t before
  undone earlier later t before parts is behind =
      let none : later ≡ [] = empty earlier later (sym undos ∙ parts) in
      let here : tree_behind (opening_book profile start faults) (0 - length later) ≡ Some before = subst (λ (b : Book). tree_behind b (0 - length later) ≡ Some before) opening_is behind in
      let first : Some (start_tree start) ≡ Some before = subst (λ (xs : List Undo). tree_behind (opening_book profile start faults) (0 - length xs) ≡ Some before) none here in
      let same : t ≡ before = one (sym is ∙ tree ∙ first) in
      subst (λ (xs : List Undo). UndoesAll TakesBack xs t before) (sym none) same

  pub opening_tied : AreTied ledger empty_device
  opening_tied = record {
    reached = subst IsReached (sym opening_is) (reached_opening profile start faults is_start);
    kept = kept ∙ sym (ap records_kept opening_is);
    counted = subst (λ (xs : List PlacedCall). AreCounted ledger.kept ledger.history.known.calls xs) (sym placed) tt;
    placed = record {
      count = ap length states ∙ sym (ap (λ (h : HistoryValue). length h.known.calls) history);
      there = λ number place c state at era stands has. absurd (nothing (number - 1) state (sym (ap (λ xs. slice_get xs (number - 1)) states) ∙ stands));
      has = λ place p at. absurd (nothing place p (sym (ap (λ xs. slice_get xs place) placed) ∙ at));
    };
    short = subst (λ (es : List owned.Event). AllByRecursion IsShort es) (sym (ap (λ (h : HistoryValue). h.events) history)) tt;
    bound = λ handle. ap (λ (b : Bindings). object_of b handle) binds ∙ sym (ap (λ (b : Book). object_of (bindings b) handle) opening_is);
    tree = subst (λ (o : Option Tree). IfSome o (λ t. tree_of (book_of ledger empty_device) ≡ Some t)) (sym tree) (ap tree_of opening_is);
    stands = λ running. subst IsSome (sym tree) refl;
    undos = λ some. ap (λ (xs : List Undo). length xs + 0) undos;
    undone = undone;
  }

pub bare_binds : (root : List ℕ) → root ≡ handle_of 0 → record { root = root; pairs = [] } ≡ bindings_made []
bare_binds root e = λ i. record { root = e i; pairs = [] }

pub opening_whole : (profile : Profile) (start : List StartObject) → IsStart start → (ledger : Ledger) → ledger.history ≡ (opening_book profile start 0).history → ledger.over.items ≡ [] → ledger.placed.items ≡ [] → ledger.calls.items ≡ [] → ledger.binds ≡ bindings_made (range_with_len 1 (length start))
    → ledger.tree ≡ Some (start_tree start) → ledger.undos.items ≡ [] → ledger.kept ≡ 0 → ledger.condition ≡ codes.Running → (faults : ℕ)
    → AreTied ledger (opening_book profile start faults).device × (book_of ledger (opening_book profile start faults).device ≡ opening_book profile start faults)
opening_whole profile start is_start ledger history over placed states binds tree undos kept condition faults =
    (opening_tied profile start is_start ledger faults history over placed states binds tree undos kept condition, opening_is profile start is_start ledger faults history over placed states binds tree undos kept condition)
