use Rattle.std.proofs.Common.{inl, inr, sym}
use Rattle.std.specs.Prelude.{IsSome}
use Rattle.std.proofs.Common.{refl, subst}
use Rattle.book_ledger.specs.Inside.{book_of}
use Rattle.book_ledger.proofs.Standing.{from_one, at_most, turn_stops, answered_unanswerable}
use Rattle.book_ledger.proofs.ledger.Ledger.check_unanswered.Goals as goal

pub returns-in-Err-clause-refused : goal.returns-in-Err-clause-refused
returns-in-Err-clause-refused c = λ device t. turn_stops _ _ (book_of c.args.self.now device) c.args.number c.in-Err.fault (λ none. inl none) (c.in-Err.ensures.refused device t)

pub end-requires-clause-from_one : goal.end-requires-clause-from_one
end-requires-clause-from_one c =
    let k = c.in-Ok.ensures.ok c.requires.0 c.requires.1 in
    from_one c.args.self.now.history.known.calls c.args.number k.1.0 k.1.1.recorded

pub end-requires-clause-known : goal.end-requires-clause-known
end-requires-clause-known c =
    let k = c.in-Ok.ensures.ok c.requires.0 c.requires.1 in
    at_most c.args.self.now.history.known.calls c.args.number k.1.0 k.1.1.recorded

pub returns-in-Some-clause-refused : goal.returns-in-Some-clause-refused
returns-in-Some-clause-refused c = λ device t.
    let k = c.in-Ok.ensures.ok device t in
    (k.0, inr (k.1, answered_unanswerable c.args.self.now device t c.args.number (subst IsSome c.in-Some.ensures refl)))

pub returns-in-None-clause-ok : goal.returns-in-None-clause-ok
returns-in-None-clause-ok c = λ device t.
    let k = c.in-Ok.ensures.ok device t in
    (k.0, k.1, sym c.in-None.ensures)
