use Rattle.std.proofs.Common.{◌≡◌, ◌≢◌, arith, sym, ap}
use Rattle.book_ledger.specs.Inside.{condition_of}
use Rattle.book_ledger.proofs.Standing.{down_isnt, dead_isnt, down_stops, over_stops, closed_stops, uncut, is_now}
use Rattle.book_ledger.proofs.ledger.Ledger.check_token.Goals as goal

pub returns-in-Down-clause-refused : goal.returns-in-Down-clause-refused
returns-in-Down-clause-refused c = λ device t. down_stops c.args.self.now device t c.args.number (down_isnt c.args.self.now.condition c.in-Down.is)

pub returns-in-Dead-clause-refused : goal.returns-in-Dead-clause-refused
returns-in-Dead-clause-refused c = λ device t. down_stops c.args.self.now device t c.args.number (dead_isnt c.args.self.now.condition c.in-Dead.is)

pub returns-in_default-clause-refused : goal.returns-in_default-clause-refused
returns-in_default-clause-refused c = λ device t. (ap condition_of c.in-Running.is, sym c.in_default.ensures)

pub returns-then-call-now-clause-refused : goal.returns-then-call-now-clause-refused
returns-then-call-now-clause-refused c = λ device t.
    let over : c.in-Some.call.now.era ≢ c.args.self.now.history.known.eras = omega arith in
    let s = over_stops c.args.self.now device t c.args.number c.in-Some.call.now c.in-Running.is (sym c.in-Some.ensures) over in
    (s.0, s.1, c.eras-now.ensures)

pub returns-in-Open-clause-ok : goal.returns-in-Open-clause-ok
returns-in-Open-clause-ok c = λ device t.
    let same : c.in-Some.call.now.era ≡ c.args.self.now.history.known.eras = omega arith in
    (ap condition_of c.in-Running.is, is_now c.args.self.now device t c.args.number c.in-Some.call.now (sym c.in-Some.ensures) same c.in-Open.ensures)

pub returns-in-EraOver-clause-refused : goal.returns-in-EraOver-clause-refused
returns-in-EraOver-clause-refused c = λ device t.
    let same : c.in-Some.call.now.era ≡ c.args.self.now.history.known.eras = omega arith in
    absurd (uncut c.args.self.now device t c.args.number c.in-Some.call.now (sym c.in-Some.ensures) same c.in-EraOver.ensures)

pub returns-in-Closed-clause-refused : goal.returns-in-Closed-clause-refused
returns-in-Closed-clause-refused c = λ device t.
    let same : c.in-Some.call.now.era ≡ c.args.self.now.history.known.eras = omega arith in
    closed_stops c.args.self.now device t c.args.number c.in-Some.call.now c.in-Running.is (sym c.in-Some.ensures) same c.in-Closed.ensures
