use Rattle.std.proofs.Common.{ℕ, List, sym, ap, subst, ◌∙◌}
use Rattle.std.specs.FinMap as map
use Rattle.std.proofs.lemmas.Result.{on_ok_weaker, on_err_weaker}
use Rattle.tree_nodes.specs.TableChanges.{HasTwoNames}
use Rattle.tree_nodes.proofs.Replacing.{body_same, names_swapped, names_traded, put_again, stands_beside, both_oks, both_errs}
use Rattle.tree_nodes.proofs.changes.move_name.Goals as goal

pub returns-then-place-directory-clause-ok : goal.returns-then-place-directory-clause-ok
returns-then-place-directory-clause-ok c =
    let m = c.args.pages.now.map in
    let n = c.put.new.self.map in
    let here = c.if-place-directory.true in
    on_ok_weaker c.swap_names-moved.result
    (λ is. subst (λ (a : ℕ). HasTwoNames c.args.directory c.args.old.now a c.args.place.now.name c.args.object m n) (sym here)
    (names_swapped m c.take.new.self.map n c.args.directory c.args.object c.in-Some.entry c.swap_names-moved.new.body c.args.old.now c.args.place.now.name
    (sym c.in-Some.ensures.value) c.in-Some.ensures.updates c.put.ensures.updates
    (is ∙ ap (λ (z : List ℕ). record c.in-Some.entry.body { names = map.remove (map.insert c.in-Some.entry.body.names z c.args.object) c.args.old.now }) c.as_slice.ensures.value) (c.requires.apart here))) c.swap_names-moved.ensures.ok

pub returns-then-place-directory-clause-err : goal.returns-then-place-directory-clause-err
returns-then-place-directory-clause-err c = on_err_weaker c.swap_names-moved.result
    (body_same c.args.pages.now.map c.take.new.self.map c.put.new.self.map c.args.directory c.in-Some.entry c.swap_names-moved.new.body (sym c.in-Some.ensures.value) c.in-Some.ensures.updates c.put.ensures.updates)
    c.swap_names-moved.ensures.err

pub trade_names-moved-requires-clause-stands : goal.trade_names-moved-requires-clause-stands
trade_names-moved-requires-clause-stands c =
    stands_beside c.args.pages.now.map c.take.new.self.map c.args.directory c.args.place.now.parent c.in-Some.ensures.updates c.if-place-directory.false c.requires.stands.1

pub returns-clause-ok : goal.returns-clause-ok
returns-clause-ok c =
    both_oks c.trade_names-moved.result _ _ _ c.trade_names-moved.ensures.ok c.trade_names-moved.ensures.body
    (λ set is. names_traded c.args.pages.now.map c.take.new.self.map c.trade_names-moved.new.pages.map c.put-2.new.self.map c.args.directory c.args.place.now.parent c.args.object c.in-Some.entry
    c.trade_names-moved.new.body c.args.old.now c.args.place.now.name (sym c.in-Some.ensures.value) c.in-Some.ensures.updates set c.put-2.ensures.updates is c.if-place-directory.false)

pub returns-clause-err : goal.returns-clause-err
returns-clause-err c =
    let entry = c.in-Some.entry in
    both_errs c.trade_names-moved.result _ _ _ c.trade_names-moved.ensures.err c.trade_names-moved.ensures.same
    (λ pages body. c.put-2.ensures.updates ∙ (λ i. map.insert ((pages ∙ c.in-Some.ensures.updates) i) c.args.directory (record { parent = entry.parent; body = body i }))
    ∙ put_again c.args.pages.now.map c.args.directory entry (sym c.in-Some.ensures.value))
