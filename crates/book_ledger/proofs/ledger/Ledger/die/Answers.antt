use Rattle.std.proofs.Common.{refl}
use Rattle.book_ledger.proofs.Conditions.{dead_tied}
use Rattle.book_ledger.proofs.ledger.Ledger.die.Goals as goal

pub returns : goal.returns
returns c = λ device t. (dead_tied c.args.self.now device t, refl)
