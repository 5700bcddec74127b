use Rattle.std.proofs.Common.{ap}
use Rattle.book_ledger.specs.book_laws_specs.Book.{Book}
use Rattle.recorder.proofs.book.Book.device.Goals as goal

pub returns : goal.returns
returns g c = ap (λ (b : Book). b.device) c.self.view_is
