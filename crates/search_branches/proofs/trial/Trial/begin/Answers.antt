use Rattle.std.proofs.Common.{refl, sym, subst}
use Rattle.tree_nodes.specs.Undo.{TakesBack}
use Rattle.replay_law.specs.Undone.{UndoesAll}
use Rattle.search_branches.proofs.trial.Trial.begin.Goals as goal

pub invariant_of-result : goal.invariant_of-result
invariant_of-result c =
    (c.in_ok-tree.tree, subst (λ us. UndoesAll TakesBack us c.in_ok-tree.tree c.in_ok-tree.tree) (sym c.new.ensures.items) refl)
