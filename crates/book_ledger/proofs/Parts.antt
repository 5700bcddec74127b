-- what of a book's parts in memory is seen, without where it lies
use Rattle.std.proofs.Common.{◌≡◌, inl, inr, ℕ, ◌+◌, ◌-◌, true, false, List, ◌++◌, length, map, Option, Some, None, refl, sym, ◌∙◌}
use Rattle.std.specs.Prelude.{IsSome, IfSome, slice_get}
use Rattle.std.specs.List.{AllByRecursion}
use Rattle.history_file.specs.declared.event.Event.{Event}
use Rattle.nfs_history.specs.declared.recorded.RecordedCall.{RecordedCall}
use Rattle.nfs_history.specs.HistoryValue.{CallsValue}
use Rattle.nfs_history.specs.Precedence.{call_at}
use Rattle.replay_law.specs.Undone.{UndoesAll}
use Rattle.tree_nodes.specs.declared.undo.Undo.{Undo}
use Rattle.tree_nodes.specs.Tree.{Tree}
use Rattle.tree_nodes.specs.Undo.{TakesBack}
use Rattle.tree_handles.specs.Binding.{Bindings, object_of}
use Rattle.journal.specs.Device.{Device, with_fault}
use Rattle.book_laws.specs.Book.{Book, Condition, bindings, tree_of, records_kept}
use Rattle.book_laws.specs.Book.Condition.{running as is_running, down as is_down, dead as is_dead}
use Rattle.book_laws.specs.Steps.{MayBecome}
use Rattle.book_laws.specs.Steps.Steps.{refuses}
use Rattle.book_ledger.specs.declared.placed.PlacedCall.{PlacedCall}
use Rattle.book_ledger.specs.declared.placed.EraOver.{EraOver}
use Rattle.book_ledger.specs.declared.placed.CallState.{CallState}
use Rattle.book_ledger.specs.declared.placed.Condition as code
use Rattle.book_ledger.specs.declared.placed.Condition.TheVariants as codes
use Rattle.book_ledger.specs.declared.ledger.Ledger.{Ledger}
use Rattle.book_ledger.specs.Inside.{placed_in, era_in, made_in, condition_of, IsReached, AreCounted, tree_behind, IsShort, AreTied}
use Rattle.book_ledger.proofs.Reaching.{reach_more}

pub record Parts : Type 0 where
  pub known : CallsValue
  pub events : List Event
  pub over : List EraOver
  pub placed : List PlacedCall
  pub calls : List CallState
  pub binds : Bindings
  pub tree : Option Tree
  pub undos : List Undo
  pub kept : ℕ
  pub condition : code.Condition

abbrev pub parts_of : Ledger → Parts
parts_of ledger =
    record {
      known = ledger.history.known;
      events = ledger.history.events;
      over = ledger.over.items;
      placed = ledger.placed.items;
      calls = ledger.calls.items;
      binds = ledger.binds;
      tree = ledger.tree;
      undos = ledger.undos.items;
      kept = ledger.kept;
      condition = ledger.condition;
    }

abbrev pub book_with : Parts → Device → Book
book_with p device =
    record {
      history = record { known = p.known; events = p.events; spare = 0 };
      over = map (era_in p.known.calls) p.over;
      placed = map (placed_in p.known.calls) p.placed;
      made = made_in (length p.known.head.start) p.calls;
      device = device;
      condition = condition_of p.condition;
    }

pub record HavePlaces (p : Parts) : Type 0 where
  pub count : length p.calls ≡ length p.known.calls
  pub there : (number place : ℕ) (call : RecordedCall) (state : CallState) → call_at p.known.calls number ≡ Some call
      → call.era ≡ p.known.eras → slice_get p.calls (number - 1) ≡ Some state → state.place ≡ Some place
      → (placed : PlacedCall) × (slice_get p.placed place ≡ Some placed) × (placed.number ≡ number)
  pub has : (place : ℕ) (placed : PlacedCall) → slice_get p.placed place ≡ Some placed
      → (state : CallState) × (slice_get p.calls (placed.number - 1) ≡ Some state) × (state.place ≡ Some place)

pub record Tied (p : Parts) (device : Device) : Type 0 where
  pub reached : IsReached (book_with p device)
  pub kept : p.kept ≡ records_kept (book_with p device)
  pub counted : AreCounted p.kept p.known.calls p.placed
  pub placed : HavePlaces p
  pub short : AllByRecursion IsShort p.events
  pub bound : (handle : List ℕ) → object_of p.binds handle ≡ object_of (bindings (book_with p device)) handle
  pub tree : IfSome p.tree (λ tree. tree_of (book_with p device) ≡ Some tree)
  pub stands : p.condition ≡ codes.Running → IsSome p.tree
  pub undos : IsSome p.tree → length p.undos + device.mark ≡ length device.records
  pub undone : (earlier later : List Undo) (tree before : Tree) → p.undos ≡ earlier ++ later → p.tree ≡ Some tree
      → tree_behind (book_with p device) (length device.records - length later) ≡ Some before → UndoesAll TakesBack later tree before

pub to_parts : (ledger : Ledger) (device : Device) → AreTied ledger device → Tied (parts_of ledger) device
to_parts ledger device t = record {
  reached = t.reached;
  kept = t.kept;
  counted = t.counted;
  placed = record { count = t.placed.count; there = t.placed.there; has = t.placed.has };
  short = t.short;
  bound = t.bound;
  tree = t.tree;
  stands = t.stands;
  undos = t.undos;
  undone = t.undone;
}

pub from_parts : (ledger : Ledger) (device : Device) → Tied (parts_of ledger) device → AreTied ledger device
from_parts ledger device t = record {
  reached = t.reached;
  kept = t.kept;
  counted = t.counted;
  placed = record { count = t.placed.count; there = t.placed.there; has = t.placed.has };
  short = t.short;
  bound = t.bound;
  tree = t.tree;
  stands = t.stands;
  undos = t.undos;
  undone = t.undone;
}

-- parts that are seen alike
pub same_parts : (p q : Parts) → p.known ≡ q.known → p.events ≡ q.events → p.over ≡ q.over → p.placed ≡ q.placed → p.calls ≡ q.calls → p.binds ≡ q.binds → p.tree ≡ q.tree
    → p.undos ≡ q.undos → p.kept ≡ q.kept → p.condition ≡ q.condition → p ≡ q
same_parts p q known events over placed calls binds tree undos kept condition =
    λ i. record {
      known = known i;
      events = events i;
      over = over i;
      placed = placed i;
      calls = calls i;
      binds = binds i;
      tree = tree i;
      undos = undos i;
      kept = kept i;
      condition = condition i;
    }

-- ---- a book that is down

pub itself : (c : Condition) → MayBecome c c
itself is_running = tt
itself is_down = tt
itself is_dead = tt

goes_down : (c : code.Condition) → (c ≡ codes.Dead → ⊥) → MayBecome (condition_of c) is_down
goes_down codes.Running alive = tt
goes_down codes.Down alive = tt
goes_down codes.Dead alive = absurd (alive refl)

not_running : (c : code.Condition) → (c ≡ codes.Running → ⊥) → condition_of c ≡ is_running → ⊥
not_running codes.Running other e = other refl
not_running codes.Down other e = cc
not_running codes.Dead other e = cc

isnt_running : codes.Down ≡ codes.Running → ⊥
isnt_running e = cc

none_there : false ≡ true → ⊥
none_there s = cc

none_some : {X : Type 0} {x : X} → None ≡ Some x → ⊥
none_some e = cc

module _ (p : Parts) (device : Device) (alive : p.condition ≡ codes.Dead → ⊥) (t : Tied p device) where
  abbrev downed : Parts
  downed = record p { condition = codes.Down }

  reached_down : IsReached (book_with downed device)
  reached_down =
      reach_more (book_with p device) (book_with downed device) t.reached
      (refuses (record { condition = is_down; faults = device.faults; spare = 0; may_become = goes_down p.condition alive; counted = inl refl; done = refl }))

  -- it takes no calls
  pub down_tied : Tied downed device
  down_tied = record {
    reached = reached_down;
    kept = t.kept;
    counted = t.counted;
    placed = record { count = t.placed.count; there = t.placed.there; has = t.placed.has };
    short = t.short;
    bound = t.bound;
    tree = t.tree;
    stands = λ running. absurd (isnt_running running);
    undos = t.undos;
    undone = t.undone;
  }

-- it has no tree, and its handles may be bound otherwise
pub treeless : (p : Parts) (device : Device) (binds : Bindings) (undos : List Undo) → ((handle : List ℕ) → object_of binds handle ≡ object_of p.binds handle) → Tied p device → p.condition ≡ codes.Down
    → Tied (record p { binds = binds; tree = None; undos = undos }) device
treeless p device binds undos same t is = record {
  reached = t.reached;
  kept = t.kept;
  counted = t.counted;
  placed = record { count = t.placed.count; there = t.placed.there; has = t.placed.has };
  short = t.short;
  bound = λ handle. same handle ∙ t.bound handle;
  tree = tt;
  stands = λ running. absurd (isnt_running (sym is ∙ running));
  undos = λ there. absurd (none_there there);
  undone = λ earlier later tree before parts there behind. absurd (none_some there);
}

-- its device has failed
pub failed_tied : (p : Parts) (device : Device) → (p.condition ≡ codes.Running → ⊥) → Tied p device → Tied p (with_fault device)
failed_tied p device other t = record {
  reached = reach_more (book_with p device) (book_with p (with_fault device)) t.reached
      (refuses (record { condition = condition_of p.condition; faults = device.faults + 1; spare = 0; may_become = itself (condition_of p.condition); counted = inr (refl, not_running p.condition other); done = refl }));
  kept = t.kept;
  counted = t.counted;
  placed = t.placed;
  short = t.short;
  bound = t.bound;
  tree = t.tree;
  stands = t.stands;
  undos = t.undos;
  undone = t.undone;
}
