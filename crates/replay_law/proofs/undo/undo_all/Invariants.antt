use Rattle.std.proofs.Common.{vec_len}
use Rattle.replay_law.specs.Undone.{UndoesAll}
use Rattle.replay_law.proofs.undo.undo_all.Given as goal

-- what is left can be taken back, and leads to each state that all lead to
abbrev pub invariant-loop-undo : goal.invariant-loop-undo
invariant-loop-undo g l = record {
  left : (before : g.row.R.Denot) × UndoesAll g.R.Replayable.undoes l.undos.items l.state before;
  same : (before : g.row.R.Denot) → UndoesAll g.R.Replayable.undoes l.fn.undos.items l.fn.state before → UndoesAll g.R.Replayable.undoes l.undos.items l.state before;
}

abbrev pub decreases-loop-undo : goal.decreases-loop-undo
decreases-loop-undo g l = vec_len l.undos
