use Rattle.tree_stores.proofs.Windows.{piece_is}
use Rattle.tree_stores.proofs.file_bytes.pages.piece.Goals as goal

pub returns : goal.returns
returns c = rw (c.min-to.ensures, c.min-from.ensures, c.saturating_sub.ensures, c.saturating_sub-2.ensures) (piece_is c.args.bytes.now _ _)
