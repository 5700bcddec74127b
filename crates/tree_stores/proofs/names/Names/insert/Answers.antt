use Rattle.std.proofs.Common.{sym, ap, ◌∙◌}
use Rattle.std.specs.FinMap as map
use Rattle.std.specs.FinMap.Entries as es
use Rattle.std.proofs.lemmas.Result.{on_ok_weaker, on_err_weaker}
use Rattle.tree_stores.specs.Names.{name_cmp, pairs_of}
use Rattle.tree_stores.proofs.Orders.{at_any_err}
use Rattle.tree_stores.proofs.Maps.{got, put_seen}
use Rattle.tree_stores.proofs.names.Names.insert.Goals as goal

pub returns-in_err-make_room-clause-absent : goal.returns-in_err-make_room-clause-absent
returns-in_err-make_room-clause-absent c =
    let before = pairs_of c.self.inside.store in
    let none = got before c.self.invariant.0 c.args.name.now ∙ c.in_err-make_room.ensures.absent in
    at_any_err c.from_residual.result (ap (λ m. map.get m c.args.name.now) (sym c.self.view_is) ∙ none)

pub returns-clause-updates : goal.returns-clause-updates
returns-clause-updates c =
    let before = pairs_of c.self.inside.store in
    on_ok_weaker c.put.result (λ is.
    put_seen before c.self.invariant.0 c.args.name.now c.args.object (pairs_of c.put.new.self) (is ∙ ap (es.put name_cmp c.args.name.now c.args.object) c.in_ok-make_room.ensures.same)
    ∙ ap (λ m. map.insert m c.args.name.now c.args.object) c.self.view_is) c.put.ensures.ok

pub returns-clause-absent : goal.returns-clause-absent
returns-clause-absent c =
    let before = pairs_of c.self.inside.store in
    on_err_weaker c.put.result (λ none.
    ap (λ m. map.get m c.args.name.now) (sym c.self.view_is) ∙ got before c.self.invariant.0 c.args.name.now
    ∙ ap (es.find name_cmp c.args.name.now) (sym c.in_ok-make_room.ensures.same) ∙ none) c.put.ensures.absent
