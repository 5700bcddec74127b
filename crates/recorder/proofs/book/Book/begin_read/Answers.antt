use Rattle.std.proofs.Common.{◌≡◌, length, refl}
use Rattle.book_ledger.specs.book_laws_specs.Steps.{Begins}
use Rattle.book_ledger.specs.Refusals.{BeginStops}
use Rattle.book_ledger.proofs.Whole.{tied_if, if_ok_whole, if_err_whole}
use Rattle.recorder.proofs.book.Book.begin_read.Goals as goal

pub invariant_of-self : goal.invariant_of-self
invariant_of-self g c =
    tied_if c.self.inside.ledger c.begin_read.new.self (g.D.JournalDevice.device c.self.inside.device) c.self.invariant (λ token o n. Begins o c.args.lane c.args.message n × (token.number ≡ length n.history.known.calls))
    (λ fault o n. BeginStops o c.args.lane c.args.message fault × (n ≡ o)) c.begin_read.result c.begin_read.ensures.begun c.begin_read.ensures.refused

pub returns-clause-begun : goal.returns-clause-begun
returns-clause-begun g c =
    if_ok_whole c.self.inside.ledger c.begin_read.new.self (g.D.JournalDevice.device c.self.inside.device) c.self.invariant c.args.self.now _ c.self.view_is refl
    (λ token o n. Begins o c.args.lane c.args.message n × (token.number ≡ length n.history.known.calls)) c.begin_read.result c.begin_read.ensures.begun

pub returns-clause-refused : goal.returns-clause-refused
returns-clause-refused g c =
    if_err_whole c.self.inside.ledger c.begin_read.new.self (g.D.JournalDevice.device c.self.inside.device) c.self.invariant c.args.self.now _ c.self.view_is refl (λ fault o n. BeginStops o c.args.lane c.args.message fault × (n ≡ o)) c.begin_read.result
    c.begin_read.ensures.refused
