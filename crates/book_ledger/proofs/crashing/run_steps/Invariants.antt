use Rattle.std.proofs.Common.{◌≡◌, length, take, Some}
use Rattle.book_ledger.specs.Undoing.{tree_after}
use Rattle.book_ledger.proofs.crashing.run_steps.Given as goal

-- the calls so far have led to the tree
abbrev pub invariant-loop-next : goal.invariant-loop-next
invariant-loop-next l = tree_after (record { profile = l.history.known.head.profile; first = length l.history.known.head.start; binds = l.binds }) l.history.known.calls l.initial.tree (take l.next-index l.placed) ≡ Some l.tree
