use Rattle.book_laws.proofs.Rebuilding.{alone}
use Rattle.book_laws.proofs.alone.a_journal_alone_gives_the_tree.Goals as goal

pub returns : goal.returns
returns c = alone
