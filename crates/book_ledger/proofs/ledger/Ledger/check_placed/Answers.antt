use Rattle.std.proofs.Common.{◌-◌, inr, arith}
use Rattle.std.specs.Prelude.{slice_get}
use Rattle.tree_nodes.proofs.Chains.{mapped}
use Rattle.book_ledger.specs.declared.placed.CallState.{CallState}
use Rattle.book_ledger.proofs.Standing.{from_one, at_most, placed_there, unplaced, unplaced_unanswerable}
use Rattle.book_ledger.proofs.ledger.Ledger.check_placed.Goals as goal

pub place_of-requires-clause-from_one : goal.place_of-requires-clause-from_one
place_of-requires-clause-from_one c =
    let k = c.in-Ok.ensures.ok c.requires.0 c.requires.1 in
    from_one c.args.self.now.history.known.calls c.args.number k.1.0 k.1.1.recorded

pub place_of-requires-clause-within : goal.place_of-requires-clause-within
place_of-requires-clause-within c =
    let k = c.in-Ok.ensures.ok c.requires.0 c.requires.1 in
    omega (arith, at_most c.args.self.now.history.known.calls c.args.number k.1.0 k.1.1.recorded, c.requires.1.placed.count)

pub returns-in-Some-clause-stands : goal.returns-in-Some-clause-stands
returns-in-Some-clause-stands c =
    let k = c.in-Ok.ensures.ok c.requires.0 c.requires.1 in
    let state = mapped (λ (s : CallState). s.place) (slice_get c.args.self.now.calls.items (c.args.number - 1)) _ c.in-Some.ensures in
    placed_there c.args.self.now c.requires.0 c.requires.1 c.args.number state.0 state.1 k.1.0 _ k.1.1.recorded k.1.1.era state.2

pub returns-in-Some-clause-ok : goal.returns-in-Some-clause-ok
returns-in-Some-clause-ok c = λ device t. c.in-Ok.ensures.ok device t

pub returns-in-None-clause-refused : goal.returns-in-None-clause-refused
returns-in-None-clause-refused c = λ device t.
    let k = c.in-Ok.ensures.ok device t in
    let state = mapped (λ (s : CallState). s.place) (slice_get c.args.self.now.calls.items (c.args.number - 1)) _ c.in-None.ensures in
    (k.0, inr (k.1, unplaced_unanswerable c.args.self.now device t c.args.number (unplaced c.args.self.now device t c.args.number state.0 state.1 state.2)))
