use Rattle.book_ledger.proofs.Flushed.{opened}
use Rattle.recorder.proofs.book.Book.new_from.Goals as goal

pub invariant_of-result : goal.invariant_of-result
invariant_of-result g c = (opened c.args.profile c.args.start c.in_ok-new_from.field-0 (g.D.JournalDevice.device c.args.device) c.requires.records c.requires.mark c.in_ok-new_from.ensures).0

pub returns : goal.returns
returns g c = (opened c.args.profile c.args.start c.in_ok-new_from.field-0 (g.D.JournalDevice.device c.args.device) c.requires.records c.requires.mark c.in_ok-new_from.ensures).1
