use Rattle.journal.specs.Device.{recovered}
use Rattle.book_ledger.proofs.BookSteps.{crash_stopped}
use Rattle.recorder.proofs.book.Book.crash.Goals as goal

pub invariant_of-self-in-Err-recover : goal.invariant_of-self-in-Err-recover
invariant_of-self-in-Err-recover g c =
    let device = g.D.JournalDevice.device c.self.inside.device in
    crash_stopped c.self.inside.ledger c.prepare_crash.new.self c.die-in-Err.new.self device (recovered device c.args.keep) (g.D.JournalDevice.device c.recover.new.self) c.in-Err.field-0 c.self.invariant
    c.prepare_crash.ensures.down c.prepare_crash.ensures.stopped c.die-in-Err.ensures c.in-Err.ensures.leaves
