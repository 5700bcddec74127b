use Rattle.std.proofs.Common.{◌≡◌}
use Rattle.book_ledger.specs.book_laws_specs.Plan.{plan_of}
use Rattle.book_ledger.proofs.Flushed.{if_ok_holds}
use Rattle.book_ledger.proofs.Explaining.{explained_so, explains, served_so, serves, written_so, writes}
use Rattle.recorder.proofs.book.Book.certificate.Goals as goal

pub certificate-requires : goal.certificate-requires
certificate-requires g c = (g.D.JournalDevice.device c.self.inside.device, c.self.invariant)

pub returns-clause-plan : goal.returns-clause-plan
returns-clause-plan g c = if_ok_holds (λ certificate book. certificate ≡ plan_of book) c.self.inside.ledger (g.D.JournalDevice.device c.self.inside.device) c.self.invariant c.args.self.now c.self.view_is c.certificate.result c.certificate.ensures

pub returns-clause-explains : goal.returns-clause-explains
returns-clause-explains g c =
    let device = g.D.JournalDevice.device c.self.inside.device in
    explains c.args.self.now (explained_so c.self.inside.ledger device c.self.invariant c.args.self.now c.self.view_is) c.certificate.result
    (if_ok_holds (λ certificate book. certificate ≡ plan_of book) c.self.inside.ledger device c.self.invariant c.args.self.now c.self.view_is c.certificate.result c.certificate.ensures)

pub returns-clause-serves : goal.returns-clause-serves
returns-clause-serves g c =
    let device = g.D.JournalDevice.device c.self.inside.device in
    serves c.args.self.now (served_so c.self.inside.ledger device c.self.invariant c.args.self.now c.self.view_is) c.certificate.result
    (if_ok_holds (λ certificate book. certificate ≡ plan_of book) c.self.inside.ledger device c.self.invariant c.args.self.now c.self.view_is c.certificate.result c.certificate.ensures)

pub returns-clause-written : goal.returns-clause-written
returns-clause-written g c =
    let device = g.D.JournalDevice.device c.self.inside.device in
    writes c.args.self.now (written_so c.self.inside.ledger device c.self.invariant c.args.self.now c.self.view_is) c.certificate.result
    (if_ok_holds (λ certificate book. certificate ≡ plan_of book) c.self.inside.ledger device c.self.invariant c.args.self.now c.self.view_is c.certificate.result c.certificate.ensures)
