use Rattle.std.proofs.Common.{◌≡◌, refl}
use Rattle.book_ledger.specs.book_laws_specs.Steps.{Closes}
use Rattle.book_ledger.specs.Refusals.{CloseStops}
use Rattle.book_ledger.proofs.Whole.{tied_on, on_ok_whole, if_err_whole}
use Rattle.recorder.proofs.book.Book.close_lane.Goals as goal

pub invariant_of-self : goal.invariant_of-self
invariant_of-self g c =
    tied_on c.self.inside.ledger c.close_lane.new.self (g.D.JournalDevice.device c.self.inside.device) c.self.invariant (λ o n. Closes o c.args.lane n) (λ fault o n. CloseStops o c.args.lane fault × (n ≡ o)) c.close_lane.result
    c.close_lane.ensures.closed c.close_lane.ensures.refused

pub returns-clause-closed : goal.returns-clause-closed
returns-clause-closed g c =
    on_ok_whole c.self.inside.ledger c.close_lane.new.self (g.D.JournalDevice.device c.self.inside.device) c.self.invariant c.args.self.now _ c.self.view_is refl (λ o n. Closes o c.args.lane n) c.close_lane.result c.close_lane.ensures.closed

pub returns-clause-refused : goal.returns-clause-refused
returns-clause-refused g c =
    if_err_whole c.self.inside.ledger c.close_lane.new.self (g.D.JournalDevice.device c.self.inside.device) c.self.invariant c.args.self.now _ c.self.view_is refl (λ fault o n. CloseStops o c.args.lane fault × (n ≡ o)) c.close_lane.result
    c.close_lane.ensures.refused
