use Rattle.std.proofs.Common.{refl}
use Rattle.book_ledger.proofs.Events.{closes_tied, closes_so}
use Rattle.book_ledger.proofs.Tied.{same_tied, same_book}
use Rattle.book_ledger.proofs.ledger.Ledger.close_lane.Goals as goal

pub returns-in-EraOver-clause-refused : goal.returns-in-EraOver-clause-refused
returns-in-EraOver-clause-refused c = λ device t. (t, ((c.in-EraOver.ensures, c.eras.ensures), refl))

pub returns-in-Closed-clause-refused : goal.returns-in-Closed-clause-refused
returns-in-Closed-clause-refused c = λ device t. (t, (c.in-Closed.ensures, refl))

pub returns-in-Ok-clause-closed : goal.returns-in-Ok-clause-closed
returns-in-Ok-clause-closed c = λ device t.
    let old = c.args.self.now in
    let new = record old { history = c.append.new.self } in
    let ens = c.in-Ok.ensures in (
      closes_tied old new device t c.args.lane c.in-Open.ensures refl (record { history = ens.found; events = ens.behind; spare = ens.taken }) refl,
      closes_so old new device t c.args.lane c.in-Open.ensures refl (record { history = ens.found; events = ens.behind; spare = ens.taken }) refl,
    )

pub returns-in-Err-clause-refused : goal.returns-in-Err-clause-refused
returns-in-Err-clause-refused c = λ device t.
    let old = c.args.self.now in
    let new = record old { history = c.append.new.self } in
    (same_tied old new device t refl c.in-Err.ensures.kept refl, (c.in-Open.ensures, same_book old new device t refl c.in-Err.ensures.kept refl))
