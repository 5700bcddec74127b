use Rattle.std.proofs.Common.{refl}
use Rattle.book_ledger.proofs.Conditions.{down_tied}
use Rattle.book_ledger.proofs.ledger.Ledger.go_down.Goals as goal

pub returns : goal.returns
returns c = λ device t. (down_tied c.args.self.now device c.requires t, refl)
