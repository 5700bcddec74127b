-- For the prover, and for callers.
-- What is said to the prover of calls that are run again, and of steps that are taken back at a crash.
use Rattle.file_tree.specs.StartTree.{start_tree}
use Rattle.std.specs.Prelude.{◌≡◌, ℕ, ◌+◌, ◌-◌, ◌≤◌, List, ◌++◌, length, map, take, drop, Option, Some, IsSome}
use Rattle.std.specs.List.{AllByRecursion}
use Rattle.replay_law.specs.Run.{state_after, kept_steps}
use Rattle.replay_law.specs.Undone.{UndoesAll}
use Rattle.nfs_history.specs.declared.recorded.RecordedCall.{RecordedCall}
use Rattle.tree_nodes.specs.declared.undo.Undo.{Undo}
use Rattle.tree_nodes.specs.Tree.{Tree}
use Rattle.tree_nodes.specs.Undo.{TakesBack}
use Rattle.journal.specs.Device.{Device, recovered}
use Rattle.book_laws.specs.Placing.{Placed}
use Rattle.book_laws.specs.Book.{Book, Setting, next_by}
use Rattle.book_laws.specs.Book.Condition.{down}
use Rattle.book_laws.specs.Steps.{Crashes}
use Rattle.book_ledger.specs.declared.placed.PlacedCall.{PlacedCall}
use Rattle.book_ledger.specs.declared.placed.EraOver.{EraOver}
use Rattle.book_ledger.specs.declared.ledger.Ledger.{Ledger}
use Rattle.book_ledger.specs.Inside.{setting_in, AreAsked, placed_in, era_in, book_of, tree_behind, AreTied}

-- the tree behind these calls, from this one on
abbrev pub tree_after : Setting → List RecordedCall → Tree → List PlacedCall → Option Tree
tree_after s recorded tree placed = state_after (next_by s) tree (map (placed_in recorded) placed)

-- these are judged calls, and lead from this tree to another
pub record CanRun (s : Setting) (recorded : List RecordedCall) (tree : Tree) (placed : List PlacedCall) : Type 0 where
  pub asked : AreAsked recorded placed
  pub runs : IsSome (tree_after s recorded tree placed)

-- what was kept of the eras that are over, and so many of the calls placed now
abbrev pub steps_kept : Ledger → ℕ → List Placed
steps_kept ledger count =
    kept_steps (map (era_in ledger.history.known.calls) ledger.over.items) ++ map (placed_in ledger.history.known.calls) (take count ledger.placed.items)

-- an era kept no more than it had, of judged calls
abbrev pub IsSoundEra : List RecordedCall → EraOver → Type 0
IsSoundEra recorded era = (era.kept ≤ length era.placed.items) × AreAsked recorded era.placed.items

-- those can be run again
pub record CanRunAgain (ledger : Ledger) (count : ℕ) : Type 0 where
  pub within : count ≤ length ledger.placed.items
  pub over : AllByRecursion (IsSoundEra ledger.history.known.calls) ledger.over.items
  pub placed : AreAsked ledger.history.known.calls ledger.placed.items
  pub runs : IsSome (state_after (next_by (setting_in ledger)) (start_tree ledger.history.known.head.start) (steps_kept ledger count))

-- so many of these values, from the last one on, take a tree back to this one
abbrev pub LeadBack : List Undo → ℕ → Tree → Tree → Type 0
LeadBack undos count after before = UndoesAll TakesBack (drop (length undos - count) undos) after before

-- a crash may keep so many records, and then loses so many
abbrev pub Loses : Device → ℕ → ℕ → Type 0
Loses device keep lost = (device.mark ≤ keep) × (keep + lost ≡ length device.records)

abbrev pub GoesDown : Book → Book → Type 0
GoesDown old new = new ≡ record old { condition = down }

-- the tree is the one behind such a crash
abbrev pub IsReady : Ledger → ℕ → ℕ → Tree → Type 0
IsReady ledger keep lost tree = (device : Device) → AreTied ledger device → Loses device keep lost → tree_behind (book_of ledger device) keep ≡ Some tree

-- the next era begins with this tree, over a device that kept so many records
abbrev pub Restarts : Ledger → ℕ → Tree → Ledger → Type 0
Restarts old keep tree new =
    (device : Device) → AreTied old device → device.mark ≤ keep → keep ≤ length device.records → tree_behind (book_of old device) keep ≡ Some tree
    → AreTied new (recovered device keep) × Crashes (book_of old device) keep (book_of new (recovered device keep))
