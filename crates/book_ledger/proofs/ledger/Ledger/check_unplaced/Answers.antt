use Rattle.std.proofs.Common.{◌-◌, inl, inr, arith}
use Rattle.std.specs.Prelude.{slice_get}
use Rattle.tree_nodes.proofs.Chains.{mapped}
use Rattle.book_ledger.specs.declared.placed.CallState.{CallState}
use Rattle.book_ledger.specs.Inside.{book_of}
use Rattle.book_ledger.proofs.Standing.{from_one, at_most, turn_stops, placed_already, unplaced}
use Rattle.book_ledger.proofs.ledger.Ledger.check_unplaced.Goals as goal

pub returns-in-Err-clause-refused : goal.returns-in-Err-clause-refused
returns-in-Err-clause-refused c = λ device t. turn_stops _ _ (book_of c.args.self.now device) c.args.number c.in-Err.fault (λ none. inl none) (c.in-Err.ensures.refused device t)

pub place_of-requires-clause-from_one : goal.place_of-requires-clause-from_one
place_of-requires-clause-from_one c =
    let k = c.in-Ok.ensures.ok c.requires.0 c.requires.1 in
    from_one c.args.self.now.history.known.calls c.args.number k.1.0 k.1.1.recorded

pub place_of-requires-clause-within : goal.place_of-requires-clause-within
place_of-requires-clause-within c =
    let k = c.in-Ok.ensures.ok c.requires.0 c.requires.1 in
    omega (arith, at_most c.args.self.now.history.known.calls c.args.number k.1.0 k.1.1.recorded, c.requires.1.placed.count)

pub returns-in-Some-clause-refused : goal.returns-in-Some-clause-refused
returns-in-Some-clause-refused c = λ device t.
    let k = c.in-Ok.ensures.ok device t in
    let state = mapped (λ (s : CallState). s.place) (slice_get c.args.self.now.calls.items (c.args.number - 1)) _ c.in-Some.ensures in
    (k.0, inr (k.1, placed_already c.args.self.now device t c.args.number state.0 state.1 k.1.0 _ k.1.1.recorded k.1.1.era state.2))

pub returns-in-None-clause-ok : goal.returns-in-None-clause-ok
returns-in-None-clause-ok c = λ device t.
    let k = c.in-Ok.ensures.ok device t in
    let state = mapped (λ (s : CallState). s.place) (slice_get c.args.self.now.calls.items (c.args.number - 1)) _ c.in-None.ensures in
    (k.0, k.1, unplaced c.args.self.now device t c.args.number state.0 state.1 state.2)
