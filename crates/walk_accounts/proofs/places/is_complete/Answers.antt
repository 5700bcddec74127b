use Rattle.std.proofs.Common.{◌≡◌, List, [], map, subst, sym, ap, ◌∙◌, arith}
use Rattle.std.proofs.lemmas.Bool.{eqb-true}
use Rattle.std.proofs.lemmas.List.{nil_from_length}
use Rattle.std.specs.List.{flat_map}
use Rattle.walk_accounts.specs.declared.exchange.Exchange.{Exchange}
use Rattle.walk_accounts.specs.Exchanges.{places_in}
use Rattle.walk_accounts.specs.Accounts.{place_of}
use Rattle.walk_accounts.specs.Stripping.{IsStripped}
use Rattle.walk_accounts.proofs.Strips.{places_more, places_done}
use Rattle.walk_accounts.proofs.places.is_complete.Goals as goal

pub loop-index-preserved : goal.loop-index-preserved
loop-index-preserved c =
    λ behind after. let a = c.index-accounts-index.result in
    let stripped = subst (λ (part : List Exchange). IsStripped (flat_map (λ e. places_in c.loop-index.index e.reply) part) c.loop-index.left.now c.in-Some.more.now) c.part_of.ensures c.in-Some.ensures in
    c.loop-index.invariant behind (places_more c.args.exchanges.now c.args.accounts.now c.loop-index.index a a c.loop-index.left.now c.in-Some.more.now behind c.loop-index-test.true c.index-accounts-index.is stripped after)

pub returns : goal.returns
returns c =
    λ empty. let none : c.loop-index.left.now ≡ [] = nil_from_length c.loop-index.left.now (eqb-true _ _ (sym c.is_empty.ensures ∙ empty)) in
    places_done c.args.exchanges.now c.args.accounts.now c.args.found.now c.loop-index.index (omega (arith, c.loop-index-test.false)) (λ behind is. c.loop-index.invariant behind (ap (map place_of) none ∙ is))
