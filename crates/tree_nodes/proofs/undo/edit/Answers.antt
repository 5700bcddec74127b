use Rattle.std.proofs.Common.{refl}
use Rattle.tree_nodes.proofs.undo.edit.Goals as goal

pub returns-clause-ok : goal.returns-clause-ok
returns-clause-ok c = record {
  file = c.in_ok-undo.undo;
  step = refl;
  sets = c.in_ok-undo.ensures.ok;
  restores = c.in_ok-undo.ensures.undo;
  len = c.in_ok-undo.ensures.len;
}
