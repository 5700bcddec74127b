use Rattle.std.proofs.Common.{ap}
use Rattle.book_ledger.specs.Inside.{condition_of}
use Rattle.book_ledger.proofs.Standing.{down_isnt, dead_isnt, not_running}
use Rattle.book_ledger.proofs.ledger.Ledger.check_open.Goals as goal

pub returns-in-Down-clause-refused : goal.returns-in-Down-clause-refused
returns-in-Down-clause-refused c = λ message device t. not_running c.args.self.now.condition (down_isnt c.args.self.now.condition c.in-Down.is)

pub returns-in-Dead-clause-refused : goal.returns-in-Dead-clause-refused
returns-in-Dead-clause-refused c = λ message device t. not_running c.args.self.now.condition (dead_isnt c.args.self.now.condition c.in-Dead.is)

pub returns-in-EraOver-clause-refused : goal.returns-in-EraOver-clause-refused
returns-in-EraOver-clause-refused c = λ message device t. (ap condition_of c.in-Running.is, c.in-EraOver.ensures, c.eras.ensures)

pub returns-in-Closed-clause-refused : goal.returns-in-Closed-clause-refused
returns-in-Closed-clause-refused c = λ message device t. (ap condition_of c.in-Running.is, c.in-Closed.ensures)
