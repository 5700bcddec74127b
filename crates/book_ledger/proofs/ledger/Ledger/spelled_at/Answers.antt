use Rattle.std.proofs.Common.{sym, ap, arith, ◌∙◌}
use Rattle.book_ledger.specs.declared.placed.PlacedCall.{PlacedCall}
use Rattle.book_ledger.proofs.Standing.{from_one, at_most}
use Rattle.book_ledger.proofs.Answered.{item_is, its_call, its_place, its_reply, spelled_so}
use Rattle.book_ledger.proofs.ledger.Ledger.spelled_at.Goals as goal

pub index-placed-requires : goal.index-placed-requires
index-placed-requires c = omega (arith, its_place c.args.self.now c.requires.tied.0 c.requires.tied.1 c.args.number c.args.place c.requires.stands, c.args.self.now.placed.ok.0)

pub call-requires-clause-from_one : goal.call-requires-clause-from_one
call-requires-clause-from_one c =
    let call = its_call c.args.self.now c.requires.tied.0 c.requires.tied.1 c.args.number c.args.place c.requires.stands in
    from_one c.args.self.now.history.known.calls c.args.number call.0 call.1

pub call-requires-clause-known : goal.call-requires-clause-known
call-requires-clause-known c =
    let call = its_call c.args.self.now c.requires.tied.0 c.requires.tied.1 c.args.number c.args.place c.requires.stands in
    at_most c.args.self.now.history.known.calls c.args.number call.0 call.1

pub unreachable-requires : goal.unreachable-requires
unreachable-requires c =
    let stands = c.requires.stands in
    let is = item_is c.args.self.now.placed.items c.args.place stands.0 c.index-placed.result.now stands.1 c.index-placed.ensures in
    let reply = its_reply c.args.self.now c.requires.tied.0 c.requires.tied.1 c.args.number c.args.place stands in
    c.in_default.not-Received reply.0 (ap (λ (p : PlacedCall). p.outcome) is ∙ reply.1)

pub returns : goal.returns
returns c =
    let stands = c.requires.stands in
    let is = item_is c.args.self.now.placed.items c.args.place stands.0 c.index-placed.result.now stands.1 c.index-placed.ensures in
    spelled_so c.new.result c.args.self.now c.args.number c.args.place stands.0 c.call.result.now c.in-Received.reply stands.1 c.call.ensures
    (sym (ap (λ (p : PlacedCall). p.outcome) is) ∙ c.in-Received.is) c.new.ensures
