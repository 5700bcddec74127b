use Rattle.std.proofs.Common.{◌<◌, ◌≤◌, refl, ap, subst, arith}
use Rattle.book_ledger.specs.declared.placed.PlacedCall.{PlacedCall}
use Rattle.book_ledger.proofs.Answered.{item_is, its_asked, its_place, near_durable, durable_turn}
use Rattle.book_ledger.proofs.ledger.Ledger.is_durable.Goals as goal

pub index-placed-requires : goal.index-placed-requires
index-placed-requires c = omega (arith, its_place c.args.self.now c.requires.tied.0 c.requires.tied.1 c.args.number c.args.place c.requires.stands, c.args.self.now.placed.ok.0)

pub call_asked-requires : goal.call_asked-requires
call_asked-requires c = its_asked c.args.self.now c.requires.tied.0 c.requires.tied.1 c.args.number c.args.place c.requires.stands

pub returns-then-placed-mark : goal.returns-then-placed-mark
returns-then-placed-mark c = λ device t.
    let stands = c.requires.stands in
    let is = item_is c.args.self.now.placed.items c.args.place stands.0 c.index-placed.result.now stands.1 c.index-placed.ensures in
    let le = subst (λ (p : PlacedCall). p.records ≤ c.args.mark) is c.if-placed-mark.true in
    ((λ _. near_durable c.args.self.now device t c.args.number c.args.place c.args.mark stands.0 stands.1 stands.2 le), (λ _. refl))

pub returns : goal.returns
returns c = λ device t.
    let stands = c.requires.stands in
    let is = item_is c.args.self.now.placed.items c.args.place stands.0 c.index-placed.result.now stands.1 c.index-placed.ensures in
    let lt = subst (λ (p : PlacedCall). c.args.mark < p.records) is c.if-placed-mark.false in
    durable_turn c.args.self.now device t c.args.number c.args.place c.args.mark stands c.promises.result c.call_asked.result.now c.index-placed.result.now.outcome c.call_asked.ensures
    (ap (λ (p : PlacedCall). p.outcome) is) c.promises.ensures lt
