use Rattle.std.proofs.Common.{◌≡◌, map, take, Some}
use Rattle.replay_law.specs.Run.{state_after, kept_steps}
use Rattle.file_tree.specs.StartTree.{start_tree}
use Rattle.book_laws.specs.Book.{next_by}
use Rattle.book_ledger.specs.Inside.{era_in, setting_in}
use Rattle.book_ledger.proofs.ledger.Ledger.tree_behind.Given as goal

-- what was kept of the eras so far has led to the tree
abbrev pub invariant-loop-era : goal.invariant-loop-era
invariant-loop-era l = state_after (next_by (setting_in l.self)) (start_tree l.self.history.known.head.start) (kept_steps (map (era_in l.self.history.known.calls) (take l.era-index l.era-items))) ≡ Some l.tree
