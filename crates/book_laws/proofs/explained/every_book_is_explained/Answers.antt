use Rattle.book_laws.proofs.EveryBook.{every_book}
use Rattle.book_laws.proofs.explained.every_book_is_explained.Goals as goal

pub returns : goal.returns
returns c = every_book
