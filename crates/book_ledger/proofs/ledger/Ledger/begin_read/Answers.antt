use Rattle.std.proofs.Common.{refl}
use Rattle.book_ledger.proofs.ledger.Ledger.begin_read.Goals as goal

pub returns-in-Err-clause-refused : goal.returns-in-Err-clause-refused
returns-in-Err-clause-refused c = λ device t. (t, (c.in-Err.ensures.refused c.args.message device t, refl))
