-- For the prover.
-- Steps that can be taken back, as Izraelevitz, Mendes and Scott 2016, section 2, ask of what a crash loses: what the code's private
-- functions say to the prover.
use Rattle.std.specs.Prelude.{List}
use Rattle.replay_law.specs.Undone.{UndoesAll}
use Rattle.tree_nodes.specs.declared.undo.Undo.{Undo}
use Rattle.tree_nodes.specs.Tree.{Tree}
use Rattle.tree_nodes.specs.Undo.{TakesBack}

-- the steps on a tree lead back to some tree
abbrev pub HasBase : List Undo → Tree → Type 0
HasBase undos tree = (base : Tree) × UndoesAll TakesBack undos tree base
