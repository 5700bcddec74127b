use Rattle.std.proofs.Common.{◌≡◌, ◌+◌, ◌-◌, length, drop}
use Rattle.replay_law.specs.Undone.{UndoesAll}
use Rattle.tree_nodes.specs.Tree.{Tree}
use Rattle.tree_nodes.specs.Undo.{TakesBack}
use Rattle.book_ledger.specs.Undoing.{LeadBack}
use Rattle.book_ledger.proofs.crashing.take_back.Given as goal

-- so many are left, and lead back to the trees that all did
abbrev pub invariant-loop : goal.invariant-loop
invariant-loop l = record {
  left : length l.undos.items + l.counter ≡ length l.fn.undos.items;
  known : (before : Tree) × UndoesAll TakesBack (drop (length l.fn.undos.items - l.count) l.undos.items) l.tree before;
  same : (before : Tree) → LeadBack l.fn.undos.items l.count l.fn.tree before → UndoesAll TakesBack (drop (length l.fn.undos.items - l.count) l.undos.items) l.tree before;
}
