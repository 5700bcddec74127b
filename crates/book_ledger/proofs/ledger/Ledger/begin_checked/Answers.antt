use Rattle.std.proofs.Common.{◌∙◌}
use Rattle.book_ledger.proofs.Begun.{recordable_so, asks_so, taken_stops}
use Rattle.book_ledger.proofs.Events.{begins_tied, begins_so}
use Rattle.book_ledger.proofs.Tied.{same_tied, same_book}
use Rattle.book_ledger.proofs.ledger.Ledger.begin_checked.Goals as goal

pub returns-in-Ok-clause-begun : goal.returns-in-Ok-clause-begun
returns-in-Ok-clause-begun c = λ device t.
    let old = c.args.self.now in
    let new = c.take_call.new.self in
    let ens = c.in-Ok.ensures in (
      begins_tied old new device t c.args.lane c.args.message c.requires.running c.requires.lane (recordable_so c.args.message c.args.call c.requires.message) ens.only ens.taken ens.fresh,
      (begins_so old new device t c.args.lane c.args.message c.requires.running c.requires.lane (recordable_so c.args.message c.args.call c.requires.message) ens.only ens.taken ens.fresh, c.new.ensures ∙ c.calls.ensures),
    )

pub returns-in-Err-clause-refused : goal.returns-in-Err-clause-refused
returns-in-Err-clause-refused c = λ device t.
    let old = c.args.self.now in
    let new = c.take_call.new.self in
    let ens = c.in-Err.ensures in (
      same_tied old new device t ens.only ens.kept ens.as_far,
      (taken_stops old c.args.lane c.args.message c.requires.running c.requires.lane device t (recordable_so c.args.message c.args.call c.requires.message) c.in-Err.fault ens.fault, same_book old new device t ens.only ens.kept ens.as_far),
    )

pub take_call-requires : goal.take_call-requires
take_call-requires c = asks_so c.args.message c.args.call c.requires.message
