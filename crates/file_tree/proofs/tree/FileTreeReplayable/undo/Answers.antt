use Rattle.std.proofs.Common.{subst, sym}
use Rattle.tree_nodes.specs.Undo.{TakesBack}
use Rattle.file_tree.proofs.tree.FileTreeReplayable.undo.Goals as goal

pub undo-requires : goal.undo-requires
undo-requires c = (c.requires.0, subst (λ tree. TakesBack c.args.undo tree c.requires.0) (sym c.self.view_is) c.requires.1)
