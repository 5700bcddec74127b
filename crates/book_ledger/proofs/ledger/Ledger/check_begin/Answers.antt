use Rattle.book_ledger.proofs.Begun.{kept_ok, kept_err}
use Rattle.book_ledger.proofs.ledger.Ledger.check_begin.Goals as goal

pub returns-in-Ok-clause-ok : goal.returns-in-Ok-clause-ok
returns-in-Ok-clause-ok c = kept_ok c.args.self.now c.args.lane c.args.message.now c.in-Ok.ensures.ok.0 c.in-Ok.ensures.ok.1 c.check_recordable.result c.check_recordable.ensures

pub returns-in-Ok-clause-refused : goal.returns-in-Ok-clause-refused
returns-in-Ok-clause-refused c = kept_err c.args.self.now c.args.lane c.args.message.now c.in-Ok.ensures.ok.0 c.in-Ok.ensures.ok.1 c.check_recordable.result c.check_recordable.ensures

pub returns-in-Err-clause-refused : goal.returns-in-Err-clause-refused
returns-in-Err-clause-refused c = c.in-Err.ensures.refused c.args.message.now
